use Rattle.ks_fixdep.proofs.Prelude.{◌≡◌, ℕ, ◌≤◌, ◌<◌, ◌-◌, length, true, get_or, is_separator}
use Rattle.ks_fixdep.proofs.tokens.leading_separators.Given as goal

abbrev pub invariant-loop-end : goal.invariant-loop-end
invariant-loop-end l = (l.end ≤ length l.text) × ((k : ℕ) → k < l.end → is_separator (get_or l.text k 0) ≡ true)

abbrev pub decreases-loop-end : goal.decreases-loop-end
decreases-loop-end l = length l.text - l.end
