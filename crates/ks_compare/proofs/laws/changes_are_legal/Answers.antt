use Rattle.ks_compare.proofs.ChangeLemmas.{changes_are_legal}
use Rattle.ks_compare.proofs.laws.changes_are_legal.Goals as goal

pub returns : goal.returns
returns c = changes_are_legal
