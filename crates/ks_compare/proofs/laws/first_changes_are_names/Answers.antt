use Rattle.ks_compare.proofs.ChangeLemmas.{first_changes_are_names, nothing_changes}
use Rattle.ks_compare.proofs.laws.first_changes_are_names.Goals as goal

pub returns : goal.returns
returns c = record { names = first_changes_are_names; again = nothing_changes }
