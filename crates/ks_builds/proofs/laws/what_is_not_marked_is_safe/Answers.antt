use Rattle.ks_builds.proofs.Marked.{what_is_not_marked_is_safe}
use Rattle.ks_builds.proofs.laws.what_is_not_marked_is_safe.Goals as goal

pub returns : goal.returns
returns c = what_is_not_marked_is_safe
