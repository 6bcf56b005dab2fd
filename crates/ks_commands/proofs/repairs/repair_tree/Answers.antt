use Rattle.ks_commands.proofs.Prelude.{err_from_is_err_and, rules, refl, inr, Err}
use Rattle.ks_commands.proofs.repairs.repair_tree.Goals as goal

pub returns-in_err-repaired-clause-files : goal.returns-in_err-repaired-clause-files
returns-in_err-repaired-clause-files g c = λ honest dialect.
    let same = c.in_ok-texts.ensures.reads.unchanged honest in
    let refused = rw (same, c.deref-2.ensures.value, c.deref-3.ensures.value, c.in_ok-objects.ensures, c.deref.ensures.value) at (c.in_err-repaired.ensures.refused honest) in
    let read = c.in_ok-texts.ensures.read honest in
    inr (_, read, Err c.in_err-repaired.field-0.0, (c.in_ok-texts.texts.kept, refl, refused), search (rules, err_from_is_err_and))
