use Rattle.ks_fixdep.specs.CommandReading.{pattern_at}
use Rattle.ks_fixdep.proofs.Prelude.{arith, common_steps}
use Rattle.ks_fixdep.proofs.command_file.reading.source_at.Goals as goal

pub returns-in-None-clause-legal : goal.returns-in-None-clause-legal
unfolding pattern_at
returns-in-None-clause-legal c = grind (arith, common_steps)

pub returns-in-None-clause-shorter : goal.returns-in-None-clause-shorter
unfolding pattern_at
returns-in-None-clause-shorter c = grind (arith, common_steps)

pub returns-in-None-clause-value : goal.returns-in-None-clause-value
unfolding pattern_at
returns-in-None-clause-value c = grind (arith, common_steps)

pub returns-in-Some-clause-legal : goal.returns-in-Some-clause-legal
unfolding pattern_at
returns-in-Some-clause-legal c = grind (arith, common_steps)

pub returns-in-Some-clause-shorter : goal.returns-in-Some-clause-shorter
unfolding pattern_at
returns-in-Some-clause-shorter c = grind (arith, common_steps)

pub returns-in-Some-clause-value : goal.returns-in-Some-clause-value
unfolding pattern_at
returns-in-Some-clause-value c = grind (arith, common_steps)
