use Rattle.ks_output.proofs.Prelude.{arith, common_steps}
use Rattle.ks_output.proofs.header.append_value.Goals as goal

pub returns-after-is_module-clause-written : goal.returns-after-is_module-clause-written
returns-after-is_module-clause-written c = grind (arith, common_steps)

pub returns-after-is_module-clause-kept : goal.returns-after-is_module-clause-kept
returns-after-is_module-clause-kept c = grind (arith, common_steps)

pub returns-in-Int-clause-written : goal.returns-in-Int-clause-written
returns-in-Int-clause-written c = grind (arith, common_steps)

pub returns-in-Int-clause-kept : goal.returns-in-Int-clause-kept
returns-in-Int-clause-kept c = grind (arith, common_steps)

pub returns-in-Flag-clause-written : goal.returns-in-Flag-clause-written
returns-in-Flag-clause-written c = grind (arith, common_steps)

pub returns-in-Flag-clause-kept : goal.returns-in-Flag-clause-kept
returns-in-Flag-clause-kept c = grind (arith, common_steps)
