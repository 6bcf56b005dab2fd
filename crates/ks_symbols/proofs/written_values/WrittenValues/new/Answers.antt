use Rattle.ks_symbols.proofs.Prelude.{ap, ◌∙◌, option_map, rules}
use Rattle.std.proofs.Common.{map as map_list}
use Rattle.std.specs.FinMap as map
use Rattle.ks_symbols.specs.WrittenValues.{indexed}
use Rattle.ks_symbols.proofs.Indices.{indexed_none}
use Rattle.ks_symbols.proofs.written_values.WrittenValues.new.Goals as goal

pub returns-clause-entries : goal.returns-clause-entries
returns-clause-entries c =
    let kinds = map.entries c.args.symbols.now.kinds in
    let all = c.in_ok-vec.ensures.items_if_clones_equal (λ y h. search rules) in
    ap (λ vs. map.from_entries (indexed kinds (map_list (option_map (λ w. w.now)) vs))) all
    ∙ ap map.from_entries (indexed_none (λ w. w.now) _ kinds)
