use Rattle.ks_fixdep.proofs.PlaceLemmas.{ended-followed}
use Rattle.ks_fixdep.proofs.laws.ended_names_are_followed.Goals as goal

pub returns : goal.returns
returns c = ended-followed
