use Rattle.ks_engine.proofs.Causes.{suspicions}
use Rattle.ks_engine.proofs.laws.suspicions_have_causes.Goals as goal

pub returns : goal.returns
returns c = suspicions
