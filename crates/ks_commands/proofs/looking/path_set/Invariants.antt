use Rattle.ks_commands.proofs.Prelude.{◌≡◌, ◌≤◌, ◌||◌, ℕ, List, drop, length}
use Rattle.ks_hidden.specs.Precompiled.{is_among}
use Rattle.ks_commands.specs.Looking.{is_listed}
use Rattle.ks_commands.proofs.looking.path_set.Given as goal

-- a path that is listed is in the set or left
abbrev pub invariant-loop-place : goal.invariant-loop-place
invariant-loop-place l = record {
  within : l.place ≤ length l.prerequisites;
  paths : (x : List ℕ) → (is_among l.listed x || is_listed (drop l.place l.prerequisites) x) ≡ is_listed l.prerequisites x;
}
