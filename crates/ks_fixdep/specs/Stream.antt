-- A text that comes in pieces: which names are complete so far, and what has to be kept of it.
use Rattle.std.specs.Prelude.{ℕ, ◌+◌, nat_le, List, [], ◌∷◌, ◌++◌, Option, Some, None, length, map, if◌then◌else◌}
use Rattle.std.specs.List.{list_all}
use Rattle.ks_symbols.specs.Names.{is_word_byte}
use Rattle.ks_fixdep.specs.Scan.{NameAt, name_of_word, placed, taken}

-- the run of word bytes that ends t
unfoldable pub last_word : List ℕ → List ℕ
last_word [] = []
last_word (b ∷ t) = if list_all is_word_byte (b ∷ t) then b ∷ t else last_word t

-- what stands before it
unfoldable pub before_last_word : List ℕ → List ℕ
before_last_word [] = []
before_last_word (b ∷ t) = if list_all is_word_byte (b ∷ t) then [] else b ∷ before_last_word t

-- a word as far as a name can come of it: `CONFIG_`, a name and `_MODULE` are at most 142 bytes
abbrev pub within : List ℕ → Option (List ℕ)
within w = if nat_le (length w) 142 then Some w else None

-- what is kept of a text
abbrev pub kept : List ℕ → Option (List ℕ)
kept t = within (last_word t)

-- a kept word, and bytes after it
abbrev pub lengthened : Option (List ℕ) → List ℕ → Option (List ℕ)
lengthened None bytes = None
lengthened (Some w) bytes = within (w ++ bytes)

-- the name of a kept word
abbrev pub kept_name : Option (List ℕ) → Option (List ℕ)
kept_name None = None
kept_name (Some w) = name_of_word w

-- n places further on
abbrev pub further : ℕ → NameAt → NameAt
further n x = record { place = n + x.place; name = x.name }

-- the names of t that a byte of t follows
abbrev pub ended : List ℕ → List NameAt
ended t = taken (before_last_word t)

-- what is borrowed after a text: the name that began in its last word, and those that begin later, counted from its end
abbrev pub borrowed_after : List ℕ → Option (List ℕ) → List NameAt → List NameAt
borrowed_after t carried names = placed (length (before_last_word t)) carried ++ map (further (length t)) names

-- a name as a list of at most one
abbrev pub list_of : Option (List ℕ) → List (List ℕ)
list_of None = []
list_of (Some x) = x ∷ []
