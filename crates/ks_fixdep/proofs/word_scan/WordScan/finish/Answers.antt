use Rattle.ks_fixdep.proofs.Prelude.{arith, common_steps}
use Rattle.ks_fixdep.proofs.word_scan.WordScan.finish.Goals as goal

pub returns-clause-pending : goal.returns-clause-pending
returns-clause-pending c = grind (arith, common_steps)

pub returns-clause-found : goal.returns-clause-found
returns-clause-found c = grind (arith, common_steps)

pub returns-clause-names : goal.returns-clause-names
returns-clause-names c = grind (arith, common_steps)

pub returns-clause-word : goal.returns-clause-word
returns-clause-word c = grind (arith, common_steps)
