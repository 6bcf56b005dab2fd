-- Where a path of a directory's tree stands in the system.
use Rattle.std.specs.Prelude.{ℕ, List, [], ◌∷◌, ◌++◌, ◌||◌, ◌==◌, Bool, true, false, if◌then◌else◌}

abbrev pub is_absolute : List ℕ → Bool
is_absolute [] = false
is_absolute (c ∷ cs) = c == 47

abbrev pub is_empty : List ℕ → Bool
is_empty [] = true
is_empty (c ∷ cs) = false

-- A path that begins with a slash is its own place, and any other stands below the root.
abbrev pub host_path_of : List ℕ → List ℕ → List ℕ
host_path_of root path = if is_absolute path || is_empty root then path else root ++ 47 ∷ path
