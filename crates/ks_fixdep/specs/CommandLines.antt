-- Lines of a command file: a line ends at a line feed alone, and the last line may lack it. A rule of this project.
use Rattle.std.specs.Prelude.{ℕ, ◌==◌, ◌-◌, List, [], ◌∷◌, Option, None, Some, length, take, drop, if◌then◌else◌, option_and_then, unwrap_or}
use Rattle.std.specs.List.{onto_first}
use Rattle.std.specs.Str.{bytes_eq}

abbrev pub line_feed : List ℕ
line_feed = 10 ∷ []

-- the lines, each with its line feed, which the last one may lack
unfoldable pub lines : List ℕ → List (List ℕ)
lines [] = []
lines (b ∷ text) = if b == 10 then line_feed ∷ lines text else onto_first b (lines text)

-- what stands after a front
abbrev pub following : List ℕ → List ℕ → Option (List ℕ)
following prefix xs = if bytes_eq (take (length prefix) xs) prefix then Some (drop (length prefix) xs) else None

-- what stands before an end
abbrev pub before : List ℕ → List ℕ → Option (List ℕ)
before end xs = if bytes_eq (drop (length xs - length end) xs) end then Some (take (length xs - length end) xs) else None

-- what stands between a front and an end
abbrev pub between : List ℕ → List ℕ → List ℕ → Option (List ℕ)
between prefix end xs = option_and_then (before end) (following prefix xs)

-- a line without its line feed
unfoldable pub content : List ℕ → List ℕ
content line = unwrap_or (before line_feed line) line
