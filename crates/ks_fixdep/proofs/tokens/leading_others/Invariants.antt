use Rattle.ks_fixdep.proofs.Prelude.{◌≡◌, ℕ, ◌≤◌, ◌<◌, ◌-◌, length, true, get_or, is_other}
use Rattle.ks_fixdep.proofs.tokens.leading_others.Given as goal

abbrev pub invariant-loop-end : goal.invariant-loop-end
invariant-loop-end l = (l.end ≤ length l.text) × ((k : ℕ) → k < l.end → is_other (get_or l.text k 0) ≡ true)

abbrev pub decreases-loop-end : goal.decreases-loop-end
decreases-loop-end l = length l.text - l.end

abbrev pub invariant-loop-end-2 : goal.invariant-loop-end-2
invariant-loop-end-2 l = (l.end ≤ length l.text) × ((k : ℕ) → k < l.end → is_other (get_or l.text k 0) ≡ true)

abbrev pub decreases-loop-end-2 : goal.decreases-loop-end-2
decreases-loop-end-2 l = length l.text - l.end
