use Rattle.ks_engine.proofs.DepfileLemmas.{made_stamps_show}
use Rattle.ks_engine.proofs.laws.made_stamps_show.Goals as goal

pub returns : goal.returns
returns c = made_stamps_show
