use Rattle.ks_engine.proofs.Prelude.{arith, length-map, common_steps, rules}
use Rattle.ks_engine.proofs.Tallying.{cost_more, cost_past}
use Rattle.ks_engine.proofs.costs.all_costs.Goals as goal
use Rattle.ks_engine.proofs.costs.all_costs.Goals.{in-Some+in_ok-push, in_default}

pub loop-place-preserved : goal.loop-place-preserved
loop-place-preserved c = search (rules, in-Some+in_ok-push, cost_more, in_default, cost_past)

pub returns : goal.returns
returns c = grind (arith, common_steps, length-map)
