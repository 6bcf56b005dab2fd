use Rattle.ks_requests.proofs.Prelude.{Some, ap, counted, known_error, refusal_text, sym, ◌∙◌}
use Rattle.ks_requests.proofs.faults.refusal_fault.Goals as goal

pub returns-in-BadScript-clause-error : goal.returns-in-BadScript-clause-error
unfolding known_error refusal_text counted
returns-in-BadScript-clause-error c = ap (λ x. known_error (refusal_text x)) c.in-BadScript.is ∙ ap Some (sym c.numbered.ensures.error)

pub returns-in-Output-clause-error : goal.returns-in-Output-clause-error
unfolding known_error refusal_text counted
returns-in-Output-clause-error c = ap (λ x. known_error (refusal_text x)) c.in-Output.is ∙ ap Some (sym c.plain.ensures.error)
