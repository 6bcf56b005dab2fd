-- The names found in a text, each once, in the order in which they were first noted. (fixdep.c keeps a table of hashes for this.)
use Rattle.std.specs.Prelude.{◌≡◌, ℕ, List, [], ◌∷◌, ◌++◌, flat_map, map, IsTrue, bytes_eq, if◌then◌else◌}
use Rattle.std.specs.Borrow.{Bor}
use Rattle.std.specs.List.{fold, list_all, list_any}
use Rattle.ks_symbols.specs.Names.{is_name}
use Rattle.ks_fixdep.specs.Scan.{taken, bare_name}

-- the names, and x at their end unless x is among them
abbrev pub noted : List (List ℕ) → List ℕ → List (List ℕ)
noted names x = if list_any (bytes_eq x) names then names else names ++ x ∷ []

-- a name as it is borrowed
abbrev pub borrowed_text : Bor (List ℕ) → List ℕ
borrowed_text t = t.now

-- the names, and each of those after in turn
abbrev pub all_noted : List (List ℕ) → List (List ℕ) → List (List ℕ)
all_noted names following = fold noted names following

-- Legal names, each of them once: to note them all in turn gives them back.
pub record AreFoundNames (names : List (List ℕ)) : Type 0 where
  pub legal : IsTrue (list_all is_name names)
  pub once : all_noted [] names ≡ names

-- the names of a text, each once, by its first place there
abbrev pub names_in : List ℕ → List (List ℕ)
names_in t = all_noted [] (map bare_name (taken t))

-- the names of all sources, each once, by its first source and its first place there
abbrev pub names_of : List (List (List ℕ)) → List (List ℕ)
names_of found = all_noted [] (flat_map (λ names. names) found)
