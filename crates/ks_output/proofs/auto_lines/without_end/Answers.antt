use Rattle.ks_output.proofs.Prelude.{arith, common_steps}
use Rattle.ks_output.proofs.auto_lines.without_end.Goals as goal

pub returns-then-n-eq0 : goal.returns-then-n-eq0
returns-then-n-eq0 c = grind (arith, common_steps)

pub returns-then-n-eq1 : goal.returns-then-n-eq1
returns-then-n-eq1 c = grind (arith, common_steps)

pub returns : goal.returns
returns c = grind (arith, common_steps)
