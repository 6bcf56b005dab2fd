-- The words of a compile command, and what its options name. The words are those that a shell takes it for, where nothing in it is expanded.
-- Between double quotes a backslash takes the next byte, whatever it is.
use Rattle.std.specs.Prelude.{ℕ, ◌==◌, ◌||◌, Bool, true, false, not, List, [], ◌∷◌, ◌++◌, length, drop, map, codes, if◌then◌else◌, nat_eq, slice_get, Option, Some, None, Vec}
use Rattle.std.specs.List.{filter_map, starts_with}
use Rattle.ks_hidden.specs.declared.words.Mode.{Mode}
use Rattle.ks_hidden.specs.declared.words.Mode.TheVariants.{Between, Bare, Single, Double, Escaped, DoubleEscaped}
use Rattle.ks_hidden.specs.declared.words.Reader.{Reader}

-- the bytes of each
abbrev pub texts : {Y : Type 0} → List (Vec ℕ Y) → List (List ℕ)
texts words = map (λ w. w.items) words

-- a space, a tab or a line feed
abbrev pub is_blank : ℕ → Bool
is_blank b = b == 32 || b == 9 || b == 10

-- a blank, a quote or a backslash
abbrev pub is_special : ℕ → Bool
is_special b = is_blank b || b == 39 || b == 34 || b == 92

-- whether a word has begun
abbrev pub is_inside : Mode → Bool
is_inside Between = false
is_inside other = true

-- whether a byte is a part of the word, as it is
abbrev pub is_part : Mode → ℕ → Bool
is_part Between b = not (is_special b)
is_part Bare b = not (is_special b)
is_part Single b = not (b == 39)
is_part Double b = not (b == 34 || b == 92)
is_part other b = true

-- whether a byte ends the word
abbrev pub ends_word : Mode → ℕ → Bool
ends_word Bare b = is_blank b
ends_word other b = false

-- outside of quotes a blank stands between words, a quote begins quotes and a backslash takes the next byte
abbrev pub mode_outside : ℕ → Mode
mode_outside b = if is_blank b then Between else (if b == 39 then Single else (if b == 34 then Double else (if b == 92 then Escaped else Bare)))

-- where a reader stands behind a byte
abbrev pub mode_after : Mode → ℕ → Mode
mode_after Between b = mode_outside b
mode_after Bare b = mode_outside b
mode_after Single b = if b == 39 then Bare else Single
mode_after Double b = if b == 34 then Bare else (if b == 92 then DoubleEscaped else Double)
mode_after Escaped b = Bare
mode_after DoubleEscaped b = Double

-- the words of what is left, where a reader stands so and has this much of a word
abbrev pub words_from : Mode → List ℕ → List ℕ → List (List ℕ)
words_from mode word [] = if is_inside mode then word ∷ [] else []
words_from mode word (b ∷ rest) =
    let more = if is_part mode b then word ++ b ∷ [] else word in
    if ends_word mode b then more ∷ words_from (mode_after mode b) [] rest else words_from (mode_after mode b) more rest

-- A command's words. Blanks side by side separate as one does, and between quotes a word may be empty.
abbrev pub words_of : List ℕ → List (List ℕ)
words_of command = words_from Between [] command

-- the words that a reader has with those of what is left
abbrev pub words_with : Reader → List ℕ → List (List ℕ)
words_with r rest = texts r.ended.items ++ words_from r.mode r.word.items rest

-- there is something, and it passes a test
abbrev pub is_such : {A : Type 0} → (A → Bool) → Option A → Bool
is_such test None = false
is_such test (Some x) = test x

-- ---- what options name

-- what stands behind these bytes, where it begins with them
abbrev pub behind : List ℕ → List ℕ → Option (List ℕ)
behind front text = if starts_with nat_eq text front then Some (drop (length front) text) else None

-- the value that stands in the word, or else the first of the words that follow
abbrev pub value_or_next : List (List ℕ) → Option (List ℕ) → Option (List ℕ)
value_or_next next (Some []) = slice_get next 0
value_or_next next other = other

-- what a word that begins with the name of an option gives: -ID gives D, and -I the next word
abbrev pub option_value : List (List ℕ) → List ℕ → List ℕ → Option (List ℕ)
option_value next word name = value_or_next next (behind name word)

-- What options of these names give. A word counts as an option also where it is the value of another.
abbrev pub option_values : List (List ℕ) → List (List ℕ) → List (List ℕ)
option_values names [] = []
option_values names (word ∷ next) = filter_map (option_value next word) names ++ option_values names next

-- the directories of headers that are named between quotes
abbrev pub quote_directories : List (List ℕ) → List (List ℕ)
quote_directories words = option_values (codes "-iquote" ∷ []) words

-- the directories of all headers, in the order in which a compiler goes through them
abbrev pub searched_directories : List (List ℕ) → List (List ℕ)
searched_directories words =
    option_values (codes "-I" ∷ []) words ++ (option_values (codes "-isystem" ∷ []) words ++ option_values (codes "-idirafter" ∷ []) words)

-- the options that name a header which comes before the source
abbrev pub header_options : List (List ℕ)
header_options = codes "-include" ∷ codes "-imacros" ∷ []
