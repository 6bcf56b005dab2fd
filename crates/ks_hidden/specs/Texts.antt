-- What a text of C or of an assembler may hold that has the compiler read a file which it lists nowhere, or makes an object one of the
-- time of its compile. The words are those of the C preprocessor and of the GNU assembler.
use Rattle.std.specs.Prelude.{◌≡◌, ◌⊎◌, ◌+◌, ◌-◌, ◌==◌, ◌||◌, ◌&&◌, not, ℕ, Bool, true, false, List, [], ◌∷◌, Option, Some, None, codes, drop, take, nat_eq, is_none, is_some, option_and_then, unwrap_or, length, slice_get, min, ◌<◌, if◌then◌else◌}
use Rattle.std.specs.List.{filter_map, prefix_len, starts_with}
use Rattle.std.specs.Char.{is_ascii_alphabetic}
use Rattle.std.specs.Str.{str_eq_ignore_ascii_case}
use Rattle.memchr.specs.Find.{OccursAt, is_byte, is_byte3, places}
use Rattle.ks_symbols.specs.Lines.{lines}
use Rattle.ks_symbols.specs.Names.{is_word_byte}
use Rattle.ks_symbols.specs.Refusals.{or_else}
use Rattle.ks_hidden.specs.Words.{behind, is_such}

-- ---- the first of some places, or of some lines

-- there is none, or it is the least number of which this holds
abbrev pub IsLeast : (ℕ → Type 0) → Option ℕ → Type 0
IsLeast holds None = (k : ℕ) → holds k → ⊥
IsLeast holds (Some n) = holds n × ((k : ℕ) → k < n → holds k → ⊥)

-- the lesser of two numbers, of which either may be missing
abbrev pub lesser : Option ℕ → Option ℕ → Option ℕ
lesser None other = other
lesser (Some n) None = Some n
lesser (Some n) (Some m) = Some (min n m)

-- the number of the line in which a place stands: one more than there are ends of lines before it
unfoldable pub line_number : List ℕ → ℕ → ℕ
line_number text k = length (places (is_byte 10) (take k text)) + 1

-- a line has such a place
abbrev pub HasLine : List ℕ → (ℕ → Type 0) → ℕ → Type 0
HasLine text holds n = (k : ℕ) × holds k × (n ≡ line_number text k)

-- ---- marks

-- one of two words
abbrev pub IsEitherAt : List ℕ → List ℕ → List ℕ → ℕ → Type 0
IsEitherAt text one other k = OccursAt text one k ⊎ OccursAt text other k

-- a word of the preprocessor that looks for a file, or is of the time of a compile
abbrev pub IsMacroAt : List ℕ → ℕ → Type 0
IsMacroAt text k =
    IsEitherAt text (codes "__has_include") (codes "__has_embed") k
    ⊎ (OccursAt text (codes "__DATE__") k ⊎ IsEitherAt text (codes "__TIME__") (codes "__TIMESTAMP__") k)

-- ---- includes whose file is computed

-- a space, a tab, a vertical tab or a form feed
abbrev pub is_blank : ℕ → Bool
is_blank b = b == 32 || b == 9 || b == 11 || b == 12

abbrev pub skip_blanks : List ℕ → List ℕ
skip_blanks text = drop (prefix_len is_blank text) text

-- what stands behind the mark by which a text may say that it is in UTF-8, and behind blanks
abbrev pub skip_front : List ℕ → List ℕ
skip_front text = skip_blanks (unwrap_or (behind (239 ∷ 187 ∷ 191 ∷ []) text) text)

-- what follows the word of an include with which a text begins
unfoldable pub after_include : List ℕ → Option (List ℕ)
after_include text =
    or_else (behind (codes "include_next") text) (or_else (behind (codes "include") text) (behind (codes "import") text))

-- a text begins with what is no quote, no angle and no end of a line
abbrev pub begins_other : List ℕ → Bool
begins_other [] = false
begins_other (b ∷ rest) = not (b == 34 || b == 60 || b == 10 || b == 13)

-- or with a backslash, a slash or a question mark: behind these a compiler may go on in the next line, or after a comment
abbrev pub begins_joined : List ℕ → Bool
begins_joined [] = false
begins_joined (b ∷ rest) = b == 92 || b == 47 || b == 63

-- No name in quotes or angles follows the word, but, after blanks, something else; or at once what may join it to that.
abbrev pub follows_computed : List ℕ → Bool
follows_computed [] = false
follows_computed (b ∷ rest) = if b == 92 || b == 47 || b == 63 then true else if is_blank b then begins_other (skip_blanks rest) else false

-- what follows the sign of a directive includes what a macro says, or takes over a file's bytes, as those of the header
unfoldable pub is_computed : List ℕ → Bool
is_computed text =
    if begins_joined (skip_blanks text) || starts_with nat_eq (skip_blanks text) (codes "embed") then true
    else is_such follows_computed (after_include (skip_blanks text))

-- what follows the sign, in one of its three spellings, with which a text begins
unfoldable pub after_sign : List ℕ → Option (List ℕ)
after_sign text = or_else (behind (codes "#") text) (or_else (behind (codes "%:") text) (behind (codes "??=") text))

unfoldable pub is_computed_line : List ℕ → Bool
is_computed_line line = is_such is_computed (after_sign (skip_front line))

-- ---- includes of a macro by its name

-- the word with which a text begins
abbrev pub front_word : List ℕ → List ℕ
front_word text = take (prefix_len is_word_byte text) text

-- a text is empty, or begins with a blank or a carriage return
abbrev pub begins_blank : List ℕ → Bool
begins_blank [] = true
begins_blank (b ∷ rest) = is_blank b || b == 13

-- or begins with a letter; a compiler's own macros that name a file, as __FILE__, begin with an underscore
abbrev pub begins_letter : List ℕ → Bool
begins_letter [] = false
begins_letter (b ∷ rest) = is_ascii_alphabetic b

-- a text begins with the name of a macro, behind which are blanks or nothing
unfoldable pub macro_name : List ℕ → Option (List ℕ)
macro_name text = if begins_letter text && begins_blank (drop (length (front_word text)) text) then Some (front_word text) else None

-- what follows the word of an include names a macro, behind blanks
abbrev pub macro_behind : List ℕ → Option (List ℕ)
macro_behind rest = if begins_blank rest then macro_name (skip_blanks rest) else None

-- The macro that a line includes by its name. Where nothing defines it, a compiler passes over the line, since there it would be an error.
unfoldable pub included_macro : List ℕ → Option (List ℕ)
included_macro line =
    if is_computed_line line then option_and_then (λ rest. option_and_then macro_behind (after_include (skip_blanks rest))) (after_sign (skip_front line))
    else None

unfoldable pub included_macros : List ℕ → List (List ℕ)
included_macros text = filter_map included_macro (lines text)

-- a line includes what a macro says, otherwise than by one plain name
abbrev pub is_hidden_include : List ℕ → Bool
is_hidden_include line = is_computed_line line && is_none (included_macro line)

-- ---- joints: what a compiler takes for one, and a search for words doesn't

-- whether a byte is there, and is of a word
abbrev pub is_of_word : Option ℕ → Bool
is_of_word = is_such is_word_byte

-- or joins the next line, too
abbrev pub is_of_word_or_joins : Option ℕ → Bool
is_of_word_or_joins = is_such (λ b. is_word_byte b || b == 92)

-- what follows the end of a line with which a text begins
unfoldable pub after_line_end : List ℕ → Option (List ℕ)
after_line_end text = or_else (behind (codes "\n") text) (behind (codes "\r\n") text)

-- What stands before a backslash and what the next line begins with are parts of one word.
unfoldable pub joins_word : List ℕ → List ℕ → Bool
joins_word before rest = is_of_word (slice_get before (length before - 1)) && is_such (λ next. is_of_word_or_joins (slice_get next 0)) (after_line_end (skip_blanks rest))

-- a text ends in a byte
abbrev pub ends_in : ℕ → List ℕ → Bool
ends_in byte text = is_such (λ b. b == byte) (slice_get text (length text - 1))

-- What stands before a slash makes it the end of a comment, behind which such a directive stands.
unfoldable pub ends_comment : List ℕ → List ℕ → Bool
ends_comment before rest = ends_in 42 before && is_computed_line rest

-- It ends the trigraph of a backslash, by which a line goes on.
unfoldable pub ends_trigraph : List ℕ → List ℕ → Bool
ends_trigraph before rest = ends_in 63 before && (ends_in 63 (take (length before - 1) before) && is_some (after_line_end (skip_blanks rest)))

-- ---- what the assembler reads a file by, in letters of either case

-- a text begins with a word, or ends in it
abbrev pub begins_as : List ℕ → List ℕ → Bool
begins_as word text = str_eq_ignore_ascii_case (take (length word) text) word

abbrev pub ends_as : List ℕ → List ℕ → Bool
ends_as word text = str_eq_ignore_ascii_case (drop (length text - length word) text) word

-- the byte is there, and is of the name of a directive
abbrev pub is_of_directive : Option ℕ → Bool
is_of_directive = is_such (λ b. is_word_byte b || b == 46 || b == 36)

-- A dot and what follows it are the directive `.include`, and no longer one.
unfoldable pub begins_include : List ℕ → Bool
begins_include rest = begins_as (codes "include") rest && not (is_of_directive (slice_get rest (length (codes "include"))))

-- What stands before a `b`, and what follows it, make it that of `incbin`.
unfoldable pub is_in_incbin : List ℕ → List ℕ → Bool
is_in_incbin before rest = ends_as (codes "inc") before && begins_as (codes "in") rest

-- ---- all these places, and lines

-- A byte between two texts is a mark: a backslash, a slash, a dot or a `b` of these; a carriage return that ends a line by itself; or NUL,
-- which a compiler passes over.
abbrev pub makes_mark : List ℕ → List ℕ → ℕ → Bool
makes_mark before rest b =
    if b == 92 then joins_word before rest
    else if b == 47 then ends_comment before rest || ends_trigraph before rest
    else if b == 46 then begins_include rest
    else if b == 98 || b == 66 then is_in_incbin before rest
    else if b == 13 then is_none (behind (codes "\n") rest)
    else b == 0

unfoldable pub is_mark : List ℕ → ℕ → Bool
is_mark text k = is_such (makes_mark (take k text) (drop (k + 1) text)) (slice_get text k)

-- one of three bytes is such a mark
abbrev pub IsMarkOf : ℕ → ℕ → ℕ → List ℕ → ℕ → Type 0
IsMarkOf a b c text k = (is_mark text k ≡ true) × (is_such (is_byte3 a b c) (slice_get text k) ≡ true)

abbrev pub IsMarkAt : List ℕ → ℕ → Type 0
IsMarkAt text k = IsMacroAt text k ⊎ (is_mark text k ≡ true)

-- the number of the first such line, where they are counted from n on, and in a text from 1 on
unfoldable pub computed_from : ℕ → List (List ℕ) → Option ℕ
computed_from n [] = None
computed_from n (l ∷ ls) = if is_hidden_include l then Some n else computed_from (n + 1) ls

unfoldable pub first_computed : List ℕ → Option ℕ
first_computed text = computed_from 1 (lines text)

-- a line has such a mark, or is the first that includes what a macro says, otherwise than by one plain name
abbrev pub HidesAt : List ℕ → ℕ → Type 0
HidesAt text n = HasLine text (IsMarkAt text) n ⊎ (first_computed text ≡ Some n)

-- the first such line, if any
abbrev pub HiddenLine : List ℕ → Option ℕ → Type 0
HiddenLine text = IsLeast (HidesAt text)
