use Rattle.ks_output.proofs.Prelude.{◌≡◌, ◌+◌, ◌≤◌, length, drop}
use Rattle.std.specs.Prelude.{◌-◌}
use Rattle.std.specs.List.{prefix_len}
use Rattle.ks_output.specs.Blocks.{is_time_byte}
use Rattle.ks_output.proofs.blocks.time_at.Given as goal

abbrev pub invariant-loop-end : goal.invariant-loop-end
invariant-loop-end l = (l.end ≤ length l.text) × (l.end + prefix_len is_time_byte (drop l.end l.text) ≡ prefix_len is_time_byte l.text)

abbrev pub decreases-loop-end : goal.decreases-loop-end
decreases-loop-end l = length l.text - l.end
