use Rattle.ks_fixdep.proofs.Prelude.{arith, common_steps}
use Rattle.ks_fixdep.proofs.place_set.cover.Goals as goal

pub loop-points-init : goal.loop-points-init
loop-points-init c = grind (arith, common_steps)

pub loop-points-preserved : goal.loop-points-preserved
loop-points-preserved c = grind (arith, common_steps)

pub returns-clause-covered : goal.returns-clause-covered
returns-clause-covered c = grind (arith, common_steps)

pub returns-clause-longer : goal.returns-clause-longer
returns-clause-longer c = grind (arith, common_steps)

pub returns-clause-stays : goal.returns-clause-stays
returns-clause-stays c = grind (arith, common_steps)
