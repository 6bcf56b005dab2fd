use Rattle.ks_output.proofs.Prelude.{arith, common_steps}
use Rattle.ks_output.proofs.positions.Position.following.Goals as goal

pub returns-in-Entry-Gives : goal.returns-in-Entry-Gives
returns-in-Entry-Gives c = grind (arith, common_steps)

pub returns-in-Typed-Mistypes : goal.returns-in-Typed-Mistypes
returns-in-Typed-Mistypes c = grind (arith, common_steps)

pub returns-in-Typed-Types : goal.returns-in-Typed-Types
returns-in-Typed-Types c = grind (arith, common_steps)

pub returns-in-Front-Marks : goal.returns-in-Front-Marks
returns-in-Front-Marks c = grind (arith, common_steps)

pub returns-in-Front-Gives : goal.returns-in-Front-Gives
returns-in-Front-Gives c = grind (arith, common_steps)

pub returns-in_default : goal.returns-in_default
returns-in_default c = grind (arith, common_steps)

pub returns-in-Entry-default : goal.returns-in-Entry-default
returns-in-Entry-default c = grind (arith, common_steps)
