use Rattle.ks_system.proofs.Counted.{cause, caused, failed, passed}
use Rattle.ks_system.proofs.system_tree.open_to_backdate.Goals as goal

pub returns-in_err-look-clause-cause : goal.returns-in_err-look-clause-cause
returns-in_err-look-clause-cause g c = λ honest.
    caused _ _ _ _ (failed _ _ _ _ c.in_err-look.was (c.found_of.ensures.faults _ _ (c.look.ensures.faults honest)))

pub returns-clause-cause : goal.returns-clause-cause
returns-clause-cause g c = λ honest.
    cause _ _ _ _ _ (passed _ _ _ _ c.in_ok-look.was (c.found_of.ensures.faults _ _ (c.look.ensures.faults honest)))
    (c.found_of-2.ensures.faults _ _ (c.open.ensures.faults honest))
