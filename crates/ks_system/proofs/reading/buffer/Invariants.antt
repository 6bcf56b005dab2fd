use Rattle.std.proofs.Common.{◌-◌, ◌≤◌, length}
use Rattle.ks_system.proofs.reading.buffer.Given as goal

abbrev pub invariant-loop-zeros : goal.invariant-loop-zeros
invariant-loop-zeros l = length l.buffer.items ≤ l.size

abbrev pub decreases-loop-zeros : goal.decreases-loop-zeros
decreases-loop-zeros l = l.size - length l.buffer.items
