use Rattle.ks_output.proofs.Prelude.{arith, common_steps}
use Rattle.ks_output.proofs.auto_lines.spelled_class.Goals as goal

pub returns-then-eq : goal.returns-then-eq
returns-then-eq c = grind (arith, common_steps)

pub returns-then-eq-2 : goal.returns-then-eq-2
returns-then-eq-2 c = grind (arith, common_steps)

pub returns-then-eq-3 : goal.returns-then-eq-3
returns-then-eq-3 c = grind (arith, common_steps)

pub returns-then-eq-4 : goal.returns-then-eq-4
returns-then-eq-4 c = grind (arith, common_steps)

pub returns-then-eq-5 : goal.returns-then-eq-5
returns-then-eq-5 c = grind (arith, common_steps)

pub returns-else-eq-5 : goal.returns-else-eq-5
returns-else-eq-5 c = grind (arith, common_steps)
