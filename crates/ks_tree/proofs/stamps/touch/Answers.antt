use Rattle.ks_tree.proofs.Prelude.{rules}
use Rattle.ks_tree.proofs.PathLemmas.{apart, ending-stamp, ending-stamp_temporary}
use Rattle.ks_tree.proofs.stamps.touch.Goals as goal

pub replace-requires : goal.replace-requires
replace-requires g c = search (rules, apart, ending-stamp_temporary, ending-stamp)
