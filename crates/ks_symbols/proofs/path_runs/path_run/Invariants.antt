use Rattle.ks_symbols.proofs.Prelude.{◌≡◌, ℕ, ◌-◌, ◌<◌, ◌≤◌, true, length, get_or, is_path_byte}
use Rattle.ks_symbols.proofs.path_runs.path_run.Given as goal

-- the bytes so far are those of a path
abbrev pub invariant-loop-end : goal.invariant-loop-end
invariant-loop-end l = (l.end ≤ length l.text) × ((k : ℕ) → k < l.end → is_path_byte (get_or l.text k 0) ≡ true)

abbrev pub decreases-loop-end : goal.decreases-loop-end
decreases-loop-end l = length l.text - l.end
