use Rattle.ks_commands.proofs.Prelude.{Err, Ok, ap, ◌∙◌, code_of, err_from_is_err_and}
use Rattle.ks_commands.proofs.dispatch.fixdep.Goals as goal

pub returns-in_err-text-clause-reported : goal.returns-in_err-text-clause-reported
returns-in_err-text-clause-reported g c = λ honest.
    let p = err_from_is_err_and c.from_residual.result c.from_residual.ensures.1 in
    (Err c.in_err-text.field-0.0, c.in_err-text.ensures.text honest, p.1 ∙ ap (λ r. Err r) p.2)

pub returns-clause-reported : goal.returns-clause-reported
returns-clause-reported g c = λ honest. (Ok c.in_ok-text.text.items, c.in_ok-text.ensures.text honest, (ap (λ v. v.items) c.done.ensures.text, ap code_of c.done.ensures.status, c.done.ensures.count))
