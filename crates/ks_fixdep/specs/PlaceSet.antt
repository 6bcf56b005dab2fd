-- Places in a table, each once, and what points to where each stands.
use Rattle.std.specs.Prelude.{◌≡◌, ◌<◌, ℕ, List, [], ◌∷◌, ◌++◌, get_or, length, nat_eq, if◌then◌else◌}
use Rattle.std.specs.List.{list_any}

-- a place goes to the end, unless it is there
abbrev pub with_place : List ℕ → ℕ → List ℕ
with_place places p = if list_any (nat_eq p) places then places else places ++ p ∷ []

-- Each of the places is pointed to where it stands.
pub record ArePointedAt (points places : List ℕ) : Type 0 where
  pub within : (k : ℕ) → k < length places → get_or places k 0 < length points
  pub at : (k : ℕ) → k < length places → get_or points (get_or places k 0) 0 ≡ k
