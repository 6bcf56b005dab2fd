use Rattle.ks_symbols.proofs.Prelude.{List, ℕ, ap, sym, ◌∙◌, bytes_eq}
use Rattle.ks_symbols.proofs.Records.{begins_at}
use Rattle.ks_symbols.proofs.table.begins_with.Goals as goal

pub returns-in-Some : goal.returns-in-Some
returns-in-Some g c =
    c.eq.ensures
    ∙ ap (λ (n : List ℕ). bytes_eq c.args.name.now n) c.name_of.ensures
    ∙ sym (begins_at c.args.bytes.now c.args.name.now c.args.records.now c.in-Some.first.now c.in-Some.ensures.value)
