use Rattle.ks_fixdep.proofs.Prelude.{arith, common_steps}
unfoldable use Rattle.ks_fixdep.specs.Placed.{placed_in}
use Rattle.ks_fixdep.proofs.placed.placed_text.Goals as goal

pub loop-token-init : goal.loop-token-init
unfolding placed_in
loop-token-init c = grind (arith, common_steps)

pub loop-token-preserved : goal.loop-token-preserved
loop-token-preserved c = grind (arith, common_steps)

pub returns : goal.returns
returns c = grind (arith, common_steps)
