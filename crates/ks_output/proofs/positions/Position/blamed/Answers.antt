use Rattle.ks_output.proofs.Prelude.{arith, common_steps}
use Rattle.ks_output.proofs.positions.Position.blamed.Goals as goal

pub returns-in-Entry : goal.returns-in-Entry
returns-in-Entry c = grind (arith, common_steps)

pub returns-in_default : goal.returns-in_default
returns-in_default c = grind (arith, common_steps)
