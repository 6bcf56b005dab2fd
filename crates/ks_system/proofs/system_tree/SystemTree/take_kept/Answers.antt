use Rattle.std.proofs.Common.{rules}
use Rattle.ks_system.proofs.Counted.{failed}
use Rattle.ks_system.proofs.system_tree.SystemTree.take_kept.Goals as goal

pub returns-in-Err-clause-due : goal.returns-in-Err-clause-due
returns-in-Err-clause-due g c = λ honest.
    let counts = c.found_of.ensures.faults _ _ (c.open.ensures.faults honest) in let risen = failed _ _ _ _ c.in-Err.is counts in search rules
