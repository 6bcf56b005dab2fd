use Rattle.ks_output.proofs.Prelude.{arith, common_steps}
use Rattle.ks_output.proofs.header.write_quoted.Goals as goal

pub loop-byte-preserved : goal.loop-byte-preserved
loop-byte-preserved c = grind (arith, common_steps)
