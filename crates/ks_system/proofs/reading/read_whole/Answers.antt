use Rattle.std.proofs.Common.{inl}
use Rattle.ks_system.proofs.Counted.{failed, failed_after, passed}
use Rattle.ks_system.proofs.reading.read_whole.Goals as goal

pub returns-in_err-look-clause-cause : goal.returns-in_err-look-clause-cause
returns-in_err-look-clause-cause g c = λ honest of_system.
    inl (inl (failed _ _ _ _ c.in_err-look.was (c.found_of.ensures.faults _ _ (c.look.ensures.faults honest))))

pub returns-in_err-handle-clause-cause : goal.returns-in_err-handle-clause-cause
returns-in_err-handle-clause-cause g c = λ honest of_system.
    inl (inl (failed_after _ _ _ _ _ c.in_err-handle.was (passed _ _ _ _ c.in_ok-look.was (c.found_of.ensures.faults _ _ (c.look.ensures.faults honest)))
    (c.found_of-2.ensures.faults _ _ (c.open.ensures.faults honest))))
