use Rattle.ks_compare.proofs.ChangeLemmas.{changes_exist, changes_are_one}
use Rattle.ks_compare.proofs.laws.changes_are_one.Goals as goal

pub returns : goal.returns
returns c = record { exist = changes_exist; one = changes_are_one }
