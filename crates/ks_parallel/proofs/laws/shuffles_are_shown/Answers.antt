use Rattle.ks_parallel.proofs.Joined.{shuffles_are_shown, side_by_side, shuffles_say_the_same}
use Rattle.ks_parallel.proofs.laws.shuffles_are_shown.Goals as goal

pub returns : goal.returns
returns c = record { shown = shuffles_are_shown; same = shuffles_say_the_same; side_by_side = side_by_side }
