use Rattle.std.proofs.Common.{rules}
use Rattle.ks_system.proofs.Counted.{failed}
use Rattle.ks_system.proofs.system_tree.SystemTree.look_for_an_end.Goals as goal

pub returns-clause-due : goal.returns-clause-due
returns-clause-due g c = λ honest.
    let counts = c.found_of.ensures.faults _ _ (c.look.ensures.faults honest) in let risen = failed _ _ _ _ c.in-Err.is counts in search rules
