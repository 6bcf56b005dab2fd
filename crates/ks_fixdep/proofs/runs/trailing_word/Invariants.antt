use Rattle.ks_fixdep.proofs.Prelude.{◌≡◌, ◌≤◌, length, drop, true, list_all, is_word_byte}
use Rattle.ks_fixdep.proofs.runs.trailing_word.Given as goal

-- the bytes from `start` on are word bytes
abbrev pub invariant-loop-start : goal.invariant-loop-start
invariant-loop-start l = (l.start ≤ length l.text) × (list_all is_word_byte (drop l.start l.text) ≡ true)

abbrev pub decreases-loop-start : goal.decreases-loop-start
decreases-loop-start l = l.start
