use Rattle.ks_engine.proofs.Beginnings.{empty_shows, usual_shows, untyped_shows}
use Rattle.ks_engine.proofs.NotNumbered.{not_numbered_shows}
use Rattle.ks_engine.proofs.laws.beginnings_are_shown.Goals as goal

pub returns : goal.returns
returns c = record { empty = empty_shows; usual = usual_shows; untyped = untyped_shows; not_numbered = not_numbered_shows }
