use Rattle.ks_symbols.proofs.Prelude.{length, ap, arith, length-map, nat_list_cmp_total, slice_get_within, rules}
use Rattle.std.proofs.lemmas.List.{map-set}
use Rattle.std.specs.FinMap as map
use Rattle.ks_symbols.proofs.Indices.{found_set}
use Rattle.ks_symbols.proofs.written_values.WrittenValues.note.Goals as goal

pub returns-then-index-len-clause-entries : goal.returns-then-index-len-clause-entries
returns-then-index-len-clause-entries c e x at =
    let kinds = c.self.inside.symbols.now.kinds in
    let sorted = map.entries_sorted kinds in
    search (rules, map.get-from_entries, nat_list_cmp_total, map-set, found_set, sorted, length-map)

pub returns-else-index-len-clause-entries : goal.returns-else-index-len-clause-entries
returns-else-index-len-clause-entries c e x at =
    absurd (omega (arith, slice_get_within (map.entries c.args.self.now.kinds) c.args.index e at, ap (λ d. length (map.entries d.kinds)) c.self.view_is, c.self.inside.written.ok.0))
