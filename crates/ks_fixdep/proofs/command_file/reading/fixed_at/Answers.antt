use Rattle.ks_fixdep.specs.CommandReading.{fixed_at}
use Rattle.ks_fixdep.proofs.Prelude.{arith, common_steps}
use Rattle.ks_fixdep.proofs.command_file.reading.fixed_at.Goals as goal

pub returns-clause-shorter : goal.returns-clause-shorter
unfolding fixed_at
returns-clause-shorter c = grind (arith, common_steps)

pub returns-clause-value : goal.returns-clause-value
unfolding fixed_at
returns-clause-value c = grind (arith, common_steps)

pub returns-then-not-is_joined-clause-shorter : goal.returns-then-not-is_joined-clause-shorter
unfolding fixed_at
returns-then-not-is_joined-clause-shorter c = grind (arith, common_steps)

pub returns-then-not-is_joined-clause-value : goal.returns-then-not-is_joined-clause-value
unfolding fixed_at
returns-then-not-is_joined-clause-value c = grind (arith, common_steps)
