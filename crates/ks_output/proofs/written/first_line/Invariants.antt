use Rattle.ks_output.proofs.Prelude.{◌≡◌, ◌+◌, ◌≤◌, length, drop}
use Rattle.std.specs.Prelude.{◌-◌}
use Rattle.std.specs.List.{prefix_len}
use Rattle.ks_symbols.specs.Lines.{is_no_line_feed}
use Rattle.ks_output.proofs.written.first_line.Given as goal

abbrev pub invariant-loop-end : goal.invariant-loop-end
invariant-loop-end l = (l.end ≤ length l.text) × (l.end + prefix_len is_no_line_feed (drop l.end l.text) ≡ prefix_len is_no_line_feed l.text)

abbrev pub decreases-loop-end : goal.decreases-loop-end
decreases-loop-end l = length l.text - l.end
