use Rattle.ks_fixdep.proofs.Prelude.{arith, common_steps}
use Rattle.ks_fixdep.proofs.place_set.PlaceSet.insert.Goals as goal

pub returns-clause-added : goal.returns-clause-added
returns-clause-added c = grind (arith, common_steps)

pub returns-clause-err : goal.returns-clause-err
returns-clause-err c = grind (arith, common_steps)

pub returns-clause-was_new : goal.returns-clause-was_new
returns-clause-was_new c = grind (arith, common_steps)

pub returns-then-contains-clause-added : goal.returns-then-contains-clause-added
returns-then-contains-clause-added c = grind (arith, common_steps)

pub returns-then-contains-clause-err : goal.returns-then-contains-clause-err
returns-then-contains-clause-err c = grind (arith, common_steps)

pub returns-then-contains-clause-was_new : goal.returns-then-contains-clause-was_new
returns-then-contains-clause-was_new c = grind (arith, common_steps)
