use Rattle.ks_fixdep.proofs.Prelude.{◌≡◌, ◌<◌, ◌≤◌, ◌+◌, ◌-◌, ℕ, get_or, length}
use Rattle.ks_fixdep.proofs.place_set.cover.Given as goal

-- what there was stays
abbrev pub invariant-loop-points : goal.invariant-loop-points
invariant-loop-points l = record {
  stays : (i : ℕ) → i < length l.fn.points.items → get_or l.points.items i 0 ≡ get_or l.fn.points.items i 0;
  longer : length l.fn.points.items ≤ length l.points.items;
}

abbrev pub decreases-loop-points : goal.decreases-loop-points
decreases-loop-points l = l.place + 1 - length l.points.items
