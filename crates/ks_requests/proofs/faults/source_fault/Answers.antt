use Rattle.ks_requests.proofs.Prelude.{Some, ap, counted, known_error, source_text, sym, ◌∙◌}
use Rattle.ks_requests.proofs.faults.source_fault.Goals as goal

pub returns-in-NotBare-clause-text : goal.returns-in-NotBare-clause-text
unfolding source_text
returns-in-NotBare-clause-text c = c.numbered.ensures.text ∙ ap source_text (sym c.in-NotBare.is)

pub returns-in-NotBare-clause-error : goal.returns-in-NotBare-clause-error
unfolding known_error source_text counted
returns-in-NotBare-clause-error c = ap (λ x. known_error (source_text x)) c.in-NotBare.is ∙ ap Some (sym c.numbered.ensures.error)

pub returns-in-BadName-clause-text : goal.returns-in-BadName-clause-text
unfolding source_text
returns-in-BadName-clause-text c = c.numbered-in-BadName.ensures.text ∙ ap source_text (sym c.in-BadName.is)

pub returns-in-BadName-clause-error : goal.returns-in-BadName-clause-error
unfolding known_error source_text counted
returns-in-BadName-clause-error c = ap (λ x. known_error (source_text x)) c.in-BadName.is ∙ ap Some (sym c.numbered-in-BadName.ensures.error)

pub returns-in-ModuleName-clause-text : goal.returns-in-ModuleName-clause-text
unfolding source_text
returns-in-ModuleName-clause-text c = c.numbered-in-ModuleName.ensures.text ∙ ap source_text (sym c.in-ModuleName.is)

pub returns-in-ModuleName-clause-error : goal.returns-in-ModuleName-clause-error
unfolding known_error source_text counted
returns-in-ModuleName-clause-error c = ap (λ x. known_error (source_text x)) c.in-ModuleName.is ∙ ap Some (sym c.numbered-in-ModuleName.ensures.error)

pub returns-in-NoType-clause-text : goal.returns-in-NoType-clause-text
unfolding source_text
returns-in-NoType-clause-text c = c.numbered-in-NoType.ensures.text ∙ ap source_text (sym c.in-NoType.is)

pub returns-in-NoType-clause-error : goal.returns-in-NoType-clause-error
unfolding known_error source_text counted
returns-in-NoType-clause-error c = ap (λ x. known_error (source_text x)) c.in-NoType.is ∙ ap Some (sym c.numbered-in-NoType.ensures.error)

pub returns-in-TypeClash-clause-text : goal.returns-in-TypeClash-clause-text
unfolding source_text
returns-in-TypeClash-clause-text c = c.numbered-in-TypeClash.ensures.text ∙ ap source_text (sym c.in-TypeClash.is)

pub returns-in-TypeClash-clause-error : goal.returns-in-TypeClash-clause-error
unfolding known_error source_text counted
returns-in-TypeClash-clause-error c = ap (λ x. known_error (source_text x)) c.in-TypeClash.is ∙ ap Some (sym c.numbered-in-TypeClash.ensures.error)

pub returns-in-BadTitle-clause-text : goal.returns-in-BadTitle-clause-text
unfolding source_text
returns-in-BadTitle-clause-text c = c.numbered-in-BadTitle.ensures.text ∙ ap source_text (sym c.in-BadTitle.is)

pub returns-in-BadTitle-clause-error : goal.returns-in-BadTitle-clause-error
unfolding known_error source_text counted
returns-in-BadTitle-clause-error c = ap (λ x. known_error (source_text x)) c.in-BadTitle.is ∙ ap Some (sym c.numbered-in-BadTitle.ensures.error)

pub returns-in-NotAConfigLine-clause-text : goal.returns-in-NotAConfigLine-clause-text
unfolding source_text
returns-in-NotAConfigLine-clause-text c = c.numbered-in-NotAConfigLine.ensures.text ∙ ap source_text (sym c.in-NotAConfigLine.is)

pub returns-in-NotAConfigLine-clause-error : goal.returns-in-NotAConfigLine-clause-error
unfolding known_error source_text counted
returns-in-NotAConfigLine-clause-error c = ap (λ x. known_error (source_text x)) c.in-NotAConfigLine.is ∙ ap Some (sym c.numbered-in-NotAConfigLine.ensures.error)

pub returns-in-BadValue-clause-text : goal.returns-in-BadValue-clause-text
unfolding source_text
returns-in-BadValue-clause-text c = c.numbered-in-BadValue.ensures.text ∙ ap source_text (sym c.in-BadValue.is)

pub returns-in-BadValue-clause-error : goal.returns-in-BadValue-clause-error
unfolding known_error source_text counted
returns-in-BadValue-clause-error c = ap (λ x. known_error (source_text x)) c.in-BadValue.is ∙ ap Some (sym c.numbered-in-BadValue.ensures.error)

pub returns-in-TooLarge-clause-text : goal.returns-in-TooLarge-clause-text
unfolding source_text
returns-in-TooLarge-clause-text c = c.plain.ensures.text ∙ ap source_text (sym c.in-TooLarge.is)

pub returns-in-TooLarge-clause-error : goal.returns-in-TooLarge-clause-error
unfolding known_error source_text counted
returns-in-TooLarge-clause-error c = ap (λ x. known_error (source_text x)) c.in-TooLarge.is ∙ ap Some (sym c.plain.ensures.error)

pub returns-in-OutOfMemory-clause-text : goal.returns-in-OutOfMemory-clause-text
unfolding source_text
returns-in-OutOfMemory-clause-text c = c.plain-in-OutOfMemory.ensures.text ∙ ap source_text (sym c.in-OutOfMemory.is)

pub returns-in-OutOfMemory-clause-error : goal.returns-in-OutOfMemory-clause-error
unfolding known_error source_text counted
returns-in-OutOfMemory-clause-error c = ap (λ x. known_error (source_text x)) c.in-OutOfMemory.is ∙ ap Some (sym c.plain-in-OutOfMemory.ensures.error)
