use Rattle.ks_fixdep.specs.CommandReading.{end_from}
use Rattle.ks_fixdep.proofs.Prelude.{arith, common_steps}
use Rattle.ks_fixdep.proofs.command_file.reading.end_from.Goals as goal

pub returns : goal.returns
unfolding end_from
returns c = grind (arith, common_steps)
