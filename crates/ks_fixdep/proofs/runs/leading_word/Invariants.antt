use Rattle.ks_fixdep.proofs.Prelude.{◌≡◌, ℕ, ◌≤◌, ◌<◌, ◌-◌, length, true, get_or, is_word_byte}
use Rattle.ks_fixdep.proofs.runs.leading_word.Given as goal

-- the bytes so far are word bytes
abbrev pub invariant-loop-end : goal.invariant-loop-end
invariant-loop-end l = (l.end ≤ length l.text) × ((k : ℕ) → k < l.end → is_word_byte (get_or l.text k 0) ≡ true)

abbrev pub decreases-loop-end : goal.decreases-loop-end
decreases-loop-end l = length l.text - l.end
