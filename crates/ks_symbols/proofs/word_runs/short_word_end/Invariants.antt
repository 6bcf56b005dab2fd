use Rattle.ks_symbols.proofs.Prelude.{◌≡◌, ◌+◌, ◌-◌, ◌≤◌, length, drop, prefix_len, is_word_byte}
use Rattle.ks_symbols.proofs.word_runs.short_word_end.Given as goal

abbrev pub invariant-loop-end : goal.invariant-loop-end
invariant-loop-end l = (l.end ≤ length l.text) × (l.end + prefix_len is_word_byte (drop l.end l.text) ≡ prefix_len is_word_byte l.text)

abbrev pub decreases-loop-end : goal.decreases-loop-end
decreases-loop-end l = length l.text - l.end
