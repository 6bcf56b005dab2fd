-- The names of many sources by their places in one table.
use Rattle.std.specs.Prelude.{ℕ, Bool, IsTrue, List, Vec, length, map, nat_lt, slice_get}
use Rattle.std.specs.List.{filter_map, list_all}

-- What a table says: all names, each once; those of each source that has ended; and those so far of the source that is being read.
pub record SourceNames : Type 0 where
  pub names : List (List ℕ)
  pub found : List (List (List ℕ))
  pub current : List (List ℕ)

-- the names at these places, and for each list of places
abbrev pub names_at : List (List ℕ) → List ℕ → List (List ℕ)
names_at names places = filter_map (slice_get names) places

abbrev pub lists_at : {Y : Type 0} → List (List ℕ) → List (Vec ℕ Y) → List (List (List ℕ))
lists_at names lists = map (λ l. names_at names l.items) lists

abbrev pub are_within : List (List ℕ) → List ℕ → Bool
are_within names places = list_all (λ i. nat_lt i (length names)) places

-- Each place has a name.
pub record AreWithin {Y : Type 0} (names : List (List ℕ)) (lists : List (Vec ℕ Y)) (places : List ℕ) : Type 0 where
  pub found : IsTrue (list_all (λ l. are_within names l.items) lists)
  pub current : IsTrue (are_within names places)
