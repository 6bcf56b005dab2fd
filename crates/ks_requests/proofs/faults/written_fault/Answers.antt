use Rattle.ks_requests.proofs.Prelude.{Some, ap, counted, known_error, sym, ◌∙◌}
unfoldable use Rattle.ks_requests.specs.Faults.{written_text}
use Rattle.ks_requests.proofs.faults.written_fault.Goals as goal

pub returns-in-TooLarge-clause-text : goal.returns-in-TooLarge-clause-text
unfolding written_text
returns-in-TooLarge-clause-text c = c.plain.ensures.text ∙ ap written_text (sym c.in-TooLarge.is)

pub returns-in-TooLarge-clause-error : goal.returns-in-TooLarge-clause-error
unfolding known_error written_text counted
returns-in-TooLarge-clause-error c = ap (λ x. known_error (written_text x)) c.in-TooLarge.is ∙ ap Some (sym c.plain.ensures.error)

pub returns-in-OutOfMemory-clause-text : goal.returns-in-OutOfMemory-clause-text
unfolding written_text
returns-in-OutOfMemory-clause-text c = c.plain-in-OutOfMemory.ensures.text ∙ ap written_text (sym c.in-OutOfMemory.is)

pub returns-in-OutOfMemory-clause-error : goal.returns-in-OutOfMemory-clause-error
unfolding known_error written_text counted
returns-in-OutOfMemory-clause-error c = ap (λ x. known_error (written_text x)) c.in-OutOfMemory.is ∙ ap Some (sym c.plain-in-OutOfMemory.ensures.error)

pub returns-in-BadHeading-clause-text : goal.returns-in-BadHeading-clause-text
unfolding written_text
returns-in-BadHeading-clause-text c = c.plain-in-BadHeading.ensures.text ∙ ap written_text (sym c.in-BadHeading.is)

pub returns-in-BadHeading-clause-error : goal.returns-in-BadHeading-clause-error
unfolding known_error written_text counted
returns-in-BadHeading-clause-error c = ap (λ x. known_error (written_text x)) c.in-BadHeading.is ∙ ap Some (sym c.plain-in-BadHeading.ensures.error)

pub returns-in-NotAnEntry-clause-text : goal.returns-in-NotAnEntry-clause-text
unfolding written_text
returns-in-NotAnEntry-clause-text c = c.numbered.ensures.text ∙ ap written_text (sym c.in-NotAnEntry.is)

pub returns-in-NotAnEntry-clause-error : goal.returns-in-NotAnEntry-clause-error
unfolding known_error written_text counted
returns-in-NotAnEntry-clause-error c = ap (λ x. known_error (written_text x)) c.in-NotAnEntry.is ∙ ap Some (sym c.numbered.ensures.error)

pub returns-in-ModuleSymbol-clause-text : goal.returns-in-ModuleSymbol-clause-text
unfolding written_text
returns-in-ModuleSymbol-clause-text c = c.numbered-in-ModuleSymbol.ensures.text ∙ ap written_text (sym c.in-ModuleSymbol.is)

pub returns-in-ModuleSymbol-clause-error : goal.returns-in-ModuleSymbol-clause-error
unfolding known_error written_text counted
returns-in-ModuleSymbol-clause-error c = ap (λ x. known_error (written_text x)) c.in-ModuleSymbol.is ∙ ap Some (sym c.numbered-in-ModuleSymbol.ensures.error)

pub returns-in-Unexplained-clause-text : goal.returns-in-Unexplained-clause-text
unfolding written_text
returns-in-Unexplained-clause-text c = c.numbered-in-Unexplained.ensures.text ∙ ap written_text (sym c.in-Unexplained.is)

pub returns-in-Unexplained-clause-error : goal.returns-in-Unexplained-clause-error
unfolding known_error written_text counted
returns-in-Unexplained-clause-error c = ap (λ x. known_error (written_text x)) c.in-Unexplained.is ∙ ap Some (sym c.numbered-in-Unexplained.ensures.error)

pub returns-in-Undefined-clause-text : goal.returns-in-Undefined-clause-text
unfolding written_text
returns-in-Undefined-clause-text c = c.numbered-in-Undefined.ensures.text ∙ ap written_text (sym c.in-Undefined.is)

pub returns-in-Undefined-clause-error : goal.returns-in-Undefined-clause-error
unfolding known_error written_text counted
returns-in-Undefined-clause-error c = ap (λ x. known_error (written_text x)) c.in-Undefined.is ∙ ap Some (sym c.numbered-in-Undefined.ensures.error)

pub returns-in-Undeclared-clause-text : goal.returns-in-Undeclared-clause-text
unfolding written_text
returns-in-Undeclared-clause-text c = c.numbered-in-Undeclared.ensures.text ∙ ap written_text (sym c.in-Undeclared.is)

pub returns-in-Undeclared-clause-error : goal.returns-in-Undeclared-clause-error
unfolding known_error written_text counted
returns-in-Undeclared-clause-error c = ap (λ x. known_error (written_text x)) c.in-Undeclared.is ∙ ap Some (sym c.numbered-in-Undeclared.ensures.error)

pub returns-in-Twice-clause-text : goal.returns-in-Twice-clause-text
unfolding written_text
returns-in-Twice-clause-text c = c.numbered-in-Twice.ensures.text ∙ ap written_text (sym c.in-Twice.is)

pub returns-in-Twice-clause-error : goal.returns-in-Twice-clause-error
unfolding known_error written_text counted
returns-in-Twice-clause-error c = ap (λ x. known_error (written_text x)) c.in-Twice.is ∙ ap Some (sym c.numbered-in-Twice.ensures.error)
