use Rattle.ks_fixdep.proofs.Prelude.{arith, common_steps}
use Rattle.ks_fixdep.proofs.dependency_file.BorrowedPrerequisitesIterator.next.Goals as goal

pub returns-clause-goes : goal.returns-clause-goes
returns-clause-goes c = grind (arith, common_steps)

pub returns-clause-steps : goal.returns-clause-steps
returns-clause-steps c = grind (arith, common_steps)
