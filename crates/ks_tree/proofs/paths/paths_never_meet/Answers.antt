use Rattle.ks_tree.proofs.Places.{paths_never_meet}
use Rattle.ks_tree.proofs.paths.paths_never_meet.Goals as goal

pub returns : goal.returns
returns c = paths_never_meet
