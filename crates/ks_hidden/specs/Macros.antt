-- The macros that a text includes by their names, and what may define these: an option -D of the command, or a text.
use Rattle.std.specs.Prelude.{◌≡◌, ◌+◌, ◌-◌, ◌&&◌, ◌||◌, ℕ, Bool, true, not, List, [], ◌∷◌, Option, Some, None, bytes_eq, codes, drop, length, slice_get, take, if◌then◌else◌, Vec}
use Rattle.std.specs.List.{list_any, suffix_len}
use Rattle.std.specs.Char.{is_ascii_whitespace}
use Rattle.indexmap.specs.IndexSet.{IndexSet, contains_by}
use Rattle.ks_hidden.specs.Arguments.{ends_with_one}
use Rattle.ks_hidden.specs.Texts.{HasLine, IsLeast, front_word, included_macros, is_of_word, skip_blanks}
use Rattle.ks_hidden.specs.Words.{is_such, option_value, words_of}

-- a name is among these
abbrev pub is_in : {S Y : Type 0} → IndexSet (Vec ℕ Y) S → List ℕ → Bool
is_in names name = contains_by (λ v. bytes_eq name v.items) names

-- a name is this one, where there is one
abbrev pub is_name : Option (List ℕ) → List ℕ → Bool
is_name o name = is_such (bytes_eq name) o

-- a text includes a macro of this name
abbrev pub includes : List ℕ → List ℕ → Bool
includes text name = list_any (bytes_eq name) (included_macros text)

-- ---- in a text

-- a text without the white space at its end
abbrev pub trimmed : List ℕ → List ℕ
trimmed text = take (length text - suffix_len is_ascii_whitespace text) text

-- Where one of these stands before the name of a macro, a text doesn't define that.
abbrev pub questions : List (List ℕ)
questions =
    codes "defined(" ∷ codes "defined (" ∷ codes "defined" ∷ codes "ifdef" ∷ codes "ifndef" ∷ codes "include" ∷ codes "include_next" ∷ codes "import" ∷ codes "undef"
    ∷ []

unfoldable pub is_asked : List ℕ → Bool
is_asked before = ends_with_one questions (trimmed before)

-- a word begins at a place
abbrev pub begins_word_at : List ℕ → ℕ → Bool
begins_word_at text k = is_of_word (slice_get text k) && not (is_of_word (slice_get (take k text) (length (take k text) - 1)))

-- There one of these macros may be defined.
unfoldable pub may_define : (List ℕ → Bool) → List ℕ → ℕ → Bool
may_define is_macro text k = begins_word_at text k && (is_macro (front_word (drop k text)) && not (is_asked (take k text)))

-- or in a line
abbrev pub DefinesAt : (List ℕ → Bool) → List ℕ → ℕ → Type 0
DefinesAt is_macro text = HasLine text (λ k. may_define is_macro text k ≡ true)

-- the first such line, if any
abbrev pub DefiningLine : (List ℕ → Bool) → List ℕ → Option ℕ → Type 0
DefiningLine is_macro text = IsLeast (DefinesAt is_macro text)

-- ---- in a command

-- What a -D defines is one of these macros. What begins otherwise than as a name, as with a comment, may be any.
abbrev pub defines_one : (List ℕ → Bool) → Option (List ℕ) → Bool
defines_one is_macro = is_such (λ value. not (is_of_word (slice_get (skip_blanks value) 0)) || is_macro (front_word (skip_blanks value)))

-- the number of the first word whose -D defines one of these macros, where they are counted from n on
abbrev pub defining_from : (List ℕ → Bool) → ℕ → List (List ℕ) → Option ℕ
defining_from is_macro n [] = None
defining_from is_macro n (word ∷ next) =
    if defines_one is_macro (option_value next word (codes "-D")) then Some n else defining_from is_macro (n + 1) next

unfoldable pub defining_word : (List ℕ → Bool) → List ℕ → Option ℕ
defining_word is_macro command = defining_from is_macro 1 (words_of command)
