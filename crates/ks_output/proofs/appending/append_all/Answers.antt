use Rattle.ks_output.proofs.Prelude.{◌≡◌, ◌++◌, ◌∙◌, List, ℕ, ap, length, take, take-append_seam, arith, common_steps}
use Rattle.ks_output.proofs.appending.append_all.Goals as goal

kept : (old new more : List ℕ) → new ≡ old ++ more → take (length old) new ≡ old
kept old new more is = ap (take (length old)) is ∙ take-append_seam old more

pub returns-in_err-extend_from_slice-clause-kept : goal.returns-in_err-extend_from_slice-clause-kept
returns-in_err-extend_from_slice-clause-kept c = kept _ _ _ (c.in_err-extend_from_slice.ensures.items ∙ c.loop-piece.invariant)

pub loop-piece-preserved : goal.loop-piece-preserved
loop-piece-preserved c = grind (arith, common_steps)

pub returns-clause-kept : goal.returns-clause-kept
returns-clause-kept c = kept _ _ _ c.loop-piece.invariant
