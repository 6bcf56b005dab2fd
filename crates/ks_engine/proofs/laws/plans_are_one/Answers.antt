use Rattle.ks_engine.proofs.Beginnings.{one_plan}
use Rattle.ks_engine.proofs.laws.plans_are_one.Goals as goal

pub returns : goal.returns
returns c = one_plan
