use Rattle.ks_parallel.proofs.Apart.{views_are_honest}
use Rattle.ks_parallel.proofs.Joined.{all_places_are_seen, views_show}
use Rattle.ks_parallel.proofs.laws.views_are_honest.Goals as goal

pub returns : goal.returns
returns c = record { calls = views_are_honest; places = all_places_are_seen; histories = views_show }
