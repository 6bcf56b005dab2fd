use Rattle.ks_builds.proofs.Backdated.{what_is_not_backdated_is_fresh, what_is_not_backdated_is_safe}
use Rattle.ks_builds.proofs.laws.what_is_not_backdated_is_safe.Goals as goal

pub returns : goal.returns
returns c = record { fresh = what_is_not_backdated_is_fresh; safe = what_is_not_backdated_is_safe }
