use Rattle.ks_output.proofs.Prelude.{arith, common_steps}
use Rattle.ks_output.proofs.auto_text.append_class.Goals as goal

pub returns-in-Switch-clause-written : goal.returns-in-Switch-clause-written
returns-in-Switch-clause-written c = grind (arith, common_steps)

pub returns-in-Switch-clause-kept : goal.returns-in-Switch-clause-kept
returns-in-Switch-clause-kept c = grind (arith, common_steps)

pub returns-in-Text-clause-written : goal.returns-in-Text-clause-written
returns-in-Text-clause-written c = grind (arith, common_steps)

pub returns-in-Text-clause-kept : goal.returns-in-Text-clause-kept
returns-in-Text-clause-kept c = grind (arith, common_steps)

pub returns-in-Int-clause-written : goal.returns-in-Int-clause-written
returns-in-Int-clause-written c = grind (arith, common_steps)

pub returns-in-Int-clause-kept : goal.returns-in-Int-clause-kept
returns-in-Int-clause-kept c = grind (arith, common_steps)

pub returns-in-Hex-clause-written : goal.returns-in-Hex-clause-written
returns-in-Hex-clause-written c = grind (arith, common_steps)

pub returns-in-Hex-clause-kept : goal.returns-in-Hex-clause-kept
returns-in-Hex-clause-kept c = grind (arith, common_steps)

pub returns-in-Raw-clause-written : goal.returns-in-Raw-clause-written
returns-in-Raw-clause-written c = grind (arith, common_steps)

pub returns-in-Raw-clause-kept : goal.returns-in-Raw-clause-kept
returns-in-Raw-clause-kept c = grind (arith, common_steps)

pub returns-in-Flag-clause-written : goal.returns-in-Flag-clause-written
returns-in-Flag-clause-written c = grind (arith, common_steps)

pub returns-in-Flag-clause-kept : goal.returns-in-Flag-clause-kept
returns-in-Flag-clause-kept c = grind (arith, common_steps)
