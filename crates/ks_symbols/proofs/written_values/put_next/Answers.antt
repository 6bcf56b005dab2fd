use Rattle.ks_symbols.proofs.Prelude.{◌∷◌, ◌++◌, ◌∙◌, List, ℕ, sym, ap, option_map, on_ok_weaker, Kind, rules}
use Rattle.std.proofs.Common.{map as map_list}
use Rattle.ks_symbols.specs.WrittenValues.{indexed}
use Rattle.ks_symbols.proofs.Indices.{indexed_next}
use Rattle.ks_symbols.proofs.written_values.put_next.Goals as goal

pub returns-in-Some : goal.returns-in-Some
returns-in-Some c =
    let kinds = λ (es : List (List ℕ × (Kind × List ℕ))). map_list (λ (e : List ℕ × (Kind × List ℕ)). (e.0, e.1.0)) es in
    let value = option_map (λ w. w.now) c.args.written in
    on_ok_weaker c.put_row.result (λ is values.
    ap (λ r. r ++ indexed (kinds c.next.new.self) values) is
    ∙ indexed_next c.args.rows.now c.in-Some.name.now c.in-Some.kind value (kinds c.next.new.self) values
    ∙ ap (λ es. c.args.rows.now ++ indexed (kinds es) (value ∷ values)) (sym c.in-Some.ensures.steps)) c.put_row.ensures

pub returns-in-None : goal.returns-in-None
unfolding indexed
returns-in-None c values = search rules
