use Rattle.ks_fixdep.proofs.PlaceLemmas.{lists-taken}
use Rattle.ks_fixdep.proofs.laws.names_by_places.Goals as goal

pub returns : goal.returns
returns c = lists-taken
