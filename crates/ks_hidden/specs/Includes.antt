-- The headers that a text includes. All are taken whose names stand behind a # and one of the words, in a comment or a string too. A name that a
-- macro gives, or that a comment parts from the word, is not seen.
use Rattle.std.specs.Prelude.{ℕ, ◌==◌, ◌||◌, Bool, not, List, [], ◌∷◌, ◌++◌, drop, codes, if◌then◌else◌, Option, Some, None, option_and_then}
use Rattle.std.specs.List.{filter_map, prefix_len, take_while}
use Rattle.memchr.specs.Find.{is_byte2}
use Rattle.ks_hidden.specs.Words.{behind}

-- a blank, a line's end, or the backslash that joins lines
abbrev pub is_space : ℕ → Bool
is_space b = b == 32 || b == 9 || b == 10 || b == 11 || b == 12 || b == 13 || b == 92

abbrev pub without_spaces : List ℕ → List ℕ
without_spaces text = drop (prefix_len is_space text) text

-- what stands before the closing byte, or before the line's end
abbrev pub up_to : ℕ → List ℕ → List ℕ
up_to close text = take_while (λ b. not (is_byte2 close 10 b)) text

-- the name that a text begins with, between "" or <>
abbrev pub quoted_name : List ℕ → Option (List ℕ)
quoted_name [] = None
quoted_name (b ∷ rest) = if b == 34 then Some (up_to 34 rest) else (if b == 60 then Some (up_to 62 rest) else None)

-- the name behind such a word
abbrev pub name_behind : List ℕ → List ℕ → Option (List ℕ)
name_behind text word = option_and_then (λ rest. quoted_name (without_spaces rest)) (behind word text)

-- the words of the lines that include a header
abbrev pub include_words : List (List ℕ)
include_words = codes "include" ∷ codes "include_next" ∷ codes "import" ∷ []

-- the name of a header behind a #, where there is one
unfoldable pub names_at : List ℕ → List (List ℕ)
names_at text = filter_map (name_behind (without_spaces text)) include_words

-- the names of all headers that a text includes
abbrev pub included_names : List ℕ → List (List ℕ)
included_names [] = []
included_names (b ∷ rest) = if b == 35 then names_at rest ++ included_names rest else included_names rest
