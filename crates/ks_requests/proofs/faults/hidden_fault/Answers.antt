use Rattle.ks_requests.proofs.Prelude.{Some, ap, known_error, sym, ◌∙◌}
use Rattle.ks_requests.specs.Faults.{counted, hidden_text}
use Rattle.ks_requests.proofs.faults.hidden_fault.Goals as goal

pub returns-in-Input-clause-error : goal.returns-in-Input-clause-error
unfolding known_error hidden_text
returns-in-Input-clause-error c = ap (λ x. known_error (hidden_text x)) c.in-Input.is ∙ ap Some (sym c.named.ensures.error)

pub returns-in-Line-clause-error : goal.returns-in-Line-clause-error
unfolding known_error hidden_text
returns-in-Line-clause-error c = ap (λ x. known_error (hidden_text x)) c.in-Line.is ∙ ap Some (sym c.named-in-Line.ensures.error)

pub returns-in-OtherHeader-clause-error : goal.returns-in-OtherHeader-clause-error
unfolding known_error hidden_text
returns-in-OtherHeader-clause-error c = ap (λ x. known_error (hidden_text x)) c.in-OtherHeader.is ∙ ap Some (sym c.named-in-OtherHeader.ensures.error)

pub returns-in-Precompiled-clause-error : goal.returns-in-Precompiled-clause-error
unfolding known_error hidden_text
returns-in-Precompiled-clause-error c = ap (λ x. known_error (hidden_text x)) c.in-Precompiled.is ∙ ap Some (sym c.named-in-Precompiled.ensures.error)

pub returns-in-MissingLine-clause-error : goal.returns-in-MissingLine-clause-error
unfolding known_error hidden_text
returns-in-MissingLine-clause-error c = ap (λ x. known_error (hidden_text x)) c.in-MissingLine.is ∙ ap Some (sym c.named-in-MissingLine.ensures.error)

pub returns-in-Argument-clause-error : goal.returns-in-Argument-clause-error
unfolding known_error hidden_text counted
returns-in-Argument-clause-error c = ap (λ x. known_error (hidden_text x)) c.in-Argument.is ∙ ap Some (sym c.numbered.ensures.error)
