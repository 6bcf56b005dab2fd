-- The dependency file of a compiler that ran in another directory: its paths as they are for a reader who is elsewhere.
use Rattle.std.specs.Prelude.{ℕ, Option, Some, None, List, ◌++◌, nat_eq, codes, flat_map, if◌then◌else◌}
use Rattle.std.specs.List.{starts_with}
use Rattle.ks_fixdep.specs.DependencyFile.{is_target_token}
use Rattle.ks_fixdep.specs.Tokens.{tokens}

-- a path of a directory, unless it begins at the root
abbrev pub in_directory : List ℕ → List ℕ → List ℕ
in_directory directory path = if starts_with nat_eq path (codes "/") then path else directory ++ codes "/" ++ path

-- a target stays as it is
abbrev pub placed_token : List ℕ → List ℕ → List ℕ
placed_token directory x = if is_target_token x then x else in_directory directory x

-- each token with its place, and a blank behind it
unfoldable pub placed_in : List ℕ → List ℕ → List ℕ
placed_in directory text = flat_map (λ x. placed_token directory x ++ codes " ") (tokens text)

-- .. where there is such a directory
abbrev pub placed : Option (List ℕ) → List ℕ → List ℕ
placed None text = text
placed (Some directory) text = placed_in directory text
