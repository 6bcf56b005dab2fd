use Rattle.ks_symbols.proofs.Prelude.{◌≡◌, ◌+◌, ◌-◌, ◌≤◌, length, drop, prefix_len, is_no_quote}
use Rattle.ks_symbols.proofs.line_kinds.split_quote.Given as goal

abbrev pub invariant-loop-end : goal.invariant-loop-end
invariant-loop-end l = (l.end ≤ length l.text) × (l.end + prefix_len is_no_quote (drop l.end l.text) ≡ prefix_len is_no_quote l.text)

abbrev pub decreases-loop-end : goal.decreases-loop-end
decreases-loop-end l = length l.text - l.end
