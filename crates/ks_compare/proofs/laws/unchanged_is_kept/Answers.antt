use Rattle.ks_compare.proofs.ChangeLemmas.{unchanged_is_kept, unchanged_is_defined_alike}
use Rattle.ks_compare.proofs.laws.unchanged_is_kept.Goals as goal

pub returns : goal.returns
returns c = record { kept = unchanged_is_kept; alike = unchanged_is_defined_alike }
