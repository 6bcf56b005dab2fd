use Rattle.ks_engine.proofs.Explanations.{places_first, places_theirs}
use Rattle.ks_engine.proofs.laws.places_are_first.Goals as goal

pub returns : goal.returns
returns c = record { first = places_first; theirs = places_theirs }
