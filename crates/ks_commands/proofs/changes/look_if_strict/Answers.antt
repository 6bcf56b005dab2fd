use Rattle.ks_commands.proofs.Prelude.{err_from_is_err_and, inl, inr, refl}
use Rattle.ks_commands.proofs.changes.look_if_strict.Goals as goal

pub returns-in_err-hidden-clause-refused : goal.returns-in_err-hidden-clause-refused
returns-in_err-hidden-clause-refused g c = λ honest.
    let p = err_from_is_err_and c.from_residual.result c.from_residual.ensures.1 in
    rw (p.1, c.in-Some.is, p.2) (inr (c.in_err-hidden.field-0.0, c.in_err-hidden.ensures.refused honest, refl))

pub returns-in-Some-2-clause-refused : goal.returns-in-Some-2-clause-refused
returns-in-Some-2-clause-refused g c = λ honest.
    rw (c.in-Some.is) (inl (c.in-Some-2.hidden, rw c.in-Some-2.is at (c.in_ok-hidden.ensures.looked honest), refl))

pub returns-in-None-clause-allowed : goal.returns-in-None-clause-allowed
returns-in-None-clause-allowed g c = λ honest.
    rw (c.in-Some.is) (rw c.in-None.is at (c.in_ok-hidden.ensures.looked honest))
