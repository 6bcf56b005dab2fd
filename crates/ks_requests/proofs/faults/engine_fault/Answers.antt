use Rattle.ks_requests.proofs.Prelude.{Some, ap, counted, known_error, fault_text, sym, ◌∙◌}
use Rattle.ks_requests.proofs.faults.engine_fault.Goals as goal

pub returns-in-TooLarge-clause-error : goal.returns-in-TooLarge-clause-error
unfolding known_error fault_text counted
returns-in-TooLarge-clause-error c = ap (λ x. known_error (fault_text x)) c.in-TooLarge.is ∙ ap Some (sym c.plain.ensures.error)

pub returns-in-OutOfMemory-clause-error : goal.returns-in-OutOfMemory-clause-error
unfolding known_error fault_text counted
returns-in-OutOfMemory-clause-error c = ap (λ x. known_error (fault_text x)) c.in-OutOfMemory.is ∙ ap Some (sym c.plain-in-OutOfMemory.ensures.error)

pub returns-in-BadAuto-clause-error : goal.returns-in-BadAuto-clause-error
unfolding known_error fault_text counted
returns-in-BadAuto-clause-error c = ap (λ x. known_error (fault_text x)) c.in-BadAuto.is ∙ ap Some (sym c.numbered.ensures.error)

pub returns-in-NoTarget-clause-error : goal.returns-in-NoTarget-clause-error
unfolding known_error fault_text counted
returns-in-NoTarget-clause-error c = ap (λ x. known_error (fault_text x)) c.in-NoTarget.is ∙ ap Some (sym c.plain-in-NoTarget.ensures.error)

pub returns-in-BadPath-clause-error : goal.returns-in-BadPath-clause-error
unfolding known_error fault_text counted
returns-in-BadPath-clause-error c = ap (λ x. known_error (fault_text x)) c.in-BadPath.is ∙ ap Some (sym c.numbered-in-BadPath.ensures.error)

pub returns-in-BadCommand-clause-error : goal.returns-in-BadCommand-clause-error
unfolding known_error fault_text counted
returns-in-BadCommand-clause-error c = ap (λ x. known_error (fault_text x)) c.in-BadCommand.is ∙ ap Some (sym c.plain-in-BadCommand.ensures.error)

pub returns-in-BadCommandFile-clause-error : goal.returns-in-BadCommandFile-clause-error
unfolding known_error fault_text counted
returns-in-BadCommandFile-clause-error c = ap (λ x. known_error (fault_text x)) c.in-BadCommandFile.is ∙ ap Some (sym c.numbered-in-BadCommandFile.ensures.error)

pub returns-in-Device-clause-error : goal.returns-in-Device-clause-error
unfolding known_error fault_text counted
returns-in-Device-clause-error c = ap (λ x. known_error (fault_text x)) c.in-Device.is ∙ ap Some (sym c.plain-in-Device.ensures.error)

pub returns-in-BadStamp-clause-error : goal.returns-in-BadStamp-clause-error
unfolding known_error fault_text counted
returns-in-BadStamp-clause-error c = ap (λ x. known_error (fault_text x)) c.in-BadStamp.is ∙ ap Some (sym c.named.ensures.error)

pub returns-in-MissingFile-clause-error : goal.returns-in-MissingFile-clause-error
unfolding known_error fault_text counted
returns-in-MissingFile-clause-error c = ap (λ x. known_error (fault_text x)) c.in-MissingFile.is ∙ ap Some (sym c.named-in-MissingFile.ensures.error)

pub returns-in-NeverSynced-clause-error : goal.returns-in-NeverSynced-clause-error
unfolding known_error fault_text counted
returns-in-NeverSynced-clause-error c = ap (λ x. known_error (fault_text x)) c.in-NeverSynced.is ∙ ap Some (sym c.plain-in-NeverSynced.ensures.error)

pub returns-in-GenerationFull-clause-error : goal.returns-in-GenerationFull-clause-error
unfolding known_error fault_text counted
returns-in-GenerationFull-clause-error c = ap (λ x. known_error (fault_text x)) c.in-GenerationFull.is ∙ ap Some (sym c.plain-in-GenerationFull.ensures.error)
