-- The names that have a companion among others, and how they are put among them.
use Rattle.std.specs.Prelude.{◌≡◌, ℕ, Bool, ◌&&◌, ◌||◌, not, ◌==◌, nat_eq, nat_lt, List, ◌++◌, ◌-◌, length, take, Option, Some, None, filter, is_some, IsTrue, if◌then◌else◌}
use Rattle.std.specs.Ordering.{nat_cmp}
use Rattle.std.specs.Cmp.Lexicographic.{slice_cmp}
use Rattle.std.specs.List.{ends_with}
use Rattle.std.specs.List.Sorted.{IsStrictlySortedBy}
use Rattle.std.specs.FinMap as map
use Rattle.ks_symbols.specs.Names.{is_in, is_name, module_end}
use Rattle.ks_symbols.specs.Configuration.{NameMap, Configuration}
use Rattle.ks_output.specs.OldConfig.{Texts}
use Rattle.ks_compare.specs.Changes.{companion_differs, entry_differs}

-- the name whose companion has this one, if that is a name
abbrev pub base_of : List ℕ → Option (List ℕ)
base_of name = if nat_lt 7 (length name) && ends_with nat_eq name module_end then Some (take (length name - 7) name) else None

-- The names that differ as companions do, of those that differ
abbrev pub changed_companions : Texts → Configuration → List (List ℕ) → List (List ℕ)
changed_companions old new names = filter (λ n. is_some (base_of n) && companion_differs old new n) names

-- Whether the companion of a name is among others
abbrev pub is_base_of : List (List ℕ) → List ℕ → Bool
is_base_of companions x = not (length x == 0) && is_in companions (x ++ module_end)

-- Some names and those of which others are the companions, rising, each once
pub record AreWithBases (names companions all : List (List ℕ)) : Type 0 where
  pub rising : IsStrictlySortedBy (slice_cmp nat_cmp) all
  pub each : (x : List ℕ) → is_in all x ≡ (is_in names x || is_base_of companions x)

-- The names whose entries differ, rising, each once
pub record AreChangedEntries (old : Texts) (new : Configuration) (names : List (List ℕ)) : Type 0 where
  pub rising : IsStrictlySortedBy (slice_cmp nat_cmp) names
  pub each : (x : List ℕ) → is_in names x ≡ entry_differs old new x

-- Names as a table
abbrev pub Noted : Type 0
Noted = NameMap (Unit {0} × List ℕ)

-- Each name is legal.
abbrev pub AreLegal : Noted → Type 0
AreLegal table = (x : List ℕ) (s : Unit {0} × List ℕ) → map.get table x ≡ Some s → IsTrue (is_name x)

-- A table has the names that it had, and these.
abbrev pub AreNoted : Noted → (List ℕ → Bool) → Noted → Type 0
AreNoted old these new = (x : List ℕ) → map.contains_key new x ≡ (map.contains_key old x || these x)
