use Rattle.ks_fixdep.specs.CommandReading.{record_in}
use Rattle.ks_fixdep.proofs.Prelude.{arith, common_steps}
use Rattle.ks_fixdep.proofs.command_file.reading.borrowed_record_in.Goals as goal

pub returns : goal.returns
unfolding record_in
returns c = grind (arith, common_steps)
