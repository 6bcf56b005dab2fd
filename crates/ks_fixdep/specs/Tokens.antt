-- The tokens of a dependency file. How a text is cut into them is a rule of this project.
use Rattle.std.specs.Prelude.{ℕ, Bool, ◌==◌, ◌||◌, not, List, length, filter}
use Rattle.std.specs.List.{slice_split}

-- a space, a tab, a backslash, a CR or an LF
abbrev pub is_separator : ℕ → Bool
is_separator b = b == 32 || b == 9 || b == 92 || b == 13 || b == 10

-- any other byte
abbrev pub is_other : ℕ → Bool
is_other b = not (is_separator b)

-- what stands between two separators, unless they stand side by side
abbrev pub is_some_token : List ℕ → Bool
is_some_token x = not (length x == 0)

-- the longest runs without separators
unfoldable pub tokens : List ℕ → List (List ℕ)
tokens text = filter is_some_token (slice_split is_separator text)
