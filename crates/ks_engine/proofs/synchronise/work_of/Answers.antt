use Rattle.ks_engine.proofs.Prelude.{rules}
use Rattle.ks_engine.proofs.synchronise.work_of.Goals as goal

pub returns : goal.returns
returns c = search rules
