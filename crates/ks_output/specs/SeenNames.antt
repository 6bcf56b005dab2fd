-- Names that came so far.
use Rattle.std.specs.Prelude.{◌≡◌, ◌∷◌, ◌++◌, [], ℕ, Bool, List, bytes_eq, if◌then◌else◌}
use Rattle.std.specs.List.{list_any}
use Rattle.std.specs.FinMap as map
use Rattle.ks_symbols.specs.Configuration.{Configuration}

-- whether a name is among these
unfoldable pub is_in : List ℕ → List (List ℕ) → Bool
is_in x xs = list_any (bytes_eq x) xs

-- one more name behind them, unless it is among them
abbrev pub with_name : List ℕ → List (List ℕ) → List (List ℕ)
with_name x xs = if is_in x xs then xs else xs ++ x ∷ []

-- They are the names of a configuration.
abbrev pub AreNamesOf : Configuration → List (List ℕ) → Type 0
AreNamesOf config names = (x : List ℕ) → is_in x names ≡ map.contains_key config x
