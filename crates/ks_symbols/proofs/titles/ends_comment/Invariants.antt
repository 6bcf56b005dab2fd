use Rattle.ks_symbols.proofs.Prelude.{◌≡◌, length, ends_comment}
use Rattle.ks_symbols.proofs.titles.ends_comment.Given as goal

abbrev pub invariant-loop-rest : goal.invariant-loop-rest
invariant-loop-rest l = ends_comment l.rest ≡ ends_comment l.fn.text

abbrev pub decreases-loop-rest : goal.decreases-loop-rest
decreases-loop-rest l = length l.rest
