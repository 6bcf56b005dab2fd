-- The forms that a line of a bare Kconfig may have (a selection of Documentation/kbuild/kconfig-language.rst).
use Rattle.std.specs.Prelude.{ℕ, Bool, ◌||◌, ◌&&◌, not, ◌==◌, nat_eq, List, length, codes, [], ◌∷◌, drop, bytes_eq, Option, Some, None, if◌then◌else◌, false, true, take_while, is_some}
use Rattle.std.specs.List.{list_all, starts_with, ends_with, prefix_len}
use Rattle.ks_symbols.specs.Names.{is_name, module_end}
use Rattle.ks_symbols.specs.declared.dialect.Dialect.{Dialect}
use Rattle.ks_symbols.specs.declared.dialect.Dialect.TheVariants as dialect
use Rattle.ks_symbols.specs.declared.kinds.Kind.{Kind}
use Rattle.ks_symbols.specs.declared.kinds.Kind.TheVariants as kind
use Rattle.ks_symbols.specs.declared.line_kinds.LineKind as kconfig
use Rattle.ks_symbols.specs.declared.line_kinds.LineKind.TheVariants as shown

-- Words stand between blanks.
abbrev pub is_blank : ℕ → Bool
is_blank b = b == 32 || b == 9

abbrev pub is_no_blank : ℕ → Bool
is_no_blank b = not (is_blank b)

abbrev pub skip_blanks : List ℕ → List ℕ
skip_blanks text = drop (prefix_len is_blank text) text

abbrev pub first_word : List ℕ → List ℕ
first_word text = take_while is_no_blank text

-- what follows the first word and the blanks after it
abbrev pub after_word : List ℕ → List ℕ
after_word text = skip_blanks (drop (length (first_word text)) text)

-- The forms of lines
pub data LineKind : Type 0 where
  -- an empty line or a comment
  CommentOrBlank : LineKind
  -- mainmenu, and a title between quotes
  Title : List ℕ → LineKind
  -- another line whose first word is mainmenu
  Untitled : LineKind
  -- config or menuconfig, and one word
  Entry : List ℕ → LineKind
  -- the same with a name that ends in _MODULE, where there are modules: its macro would be that of a module
  ModuleEntry : LineKind
  -- a kind
  HasKind : Kind → LineKind
  -- no form
  Unknown : LineKind

-- a form of the code, without where its bytes lie
abbrev pub seen_line_kind : kconfig.LineKind → LineKind
seen_line_kind shown.CommentOrBlank = CommentOrBlank
seen_line_kind (shown.Title title) = Title title.now
seen_line_kind shown.Untitled = Untitled
seen_line_kind (shown.Entry name) = Entry name.now
seen_line_kind shown.ModuleEntry = ModuleEntry
seen_line_kind (shown.HasKind k) = HasKind k
seen_line_kind shown.Unknown = Unknown

-- what follows a text that goes up to the next quote, where a backslash takes the next byte along
unfoldable pub after_quote : List ℕ → Option (List ℕ)
after_quote [] = None
after_quote (b ∷ []) = if b == 34 then Some [] else None
after_quote (b ∷ c ∷ rest) = if b == 34 then Some (c ∷ rest) else (if b == 92 then after_quote rest else after_quote (c ∷ rest))

abbrev pub is_all_blanks : Option (List ℕ) → Bool
is_all_blanks None = false
is_all_blanks (Some rest) = list_all is_blank rest

-- a prompt, and blanks
abbrev pub is_prompt : List ℕ → Bool
is_prompt text = starts_with nat_eq text (34 ∷ []) && is_all_blanks (after_quote (drop 1 text))

-- one word, and blanks
abbrev pub is_one_word : List ℕ → Bool
is_one_word text = not (length text == 0) && length (after_word text) == 0

abbrev pub is_state : List ℕ → Bool
is_state word = bytes_eq word (codes "y") || bytes_eq word (codes "m") || bytes_eq word (codes "n")

-- the kind that `string` names: Linux and coreboot have escapes in the value, and the others take it as it stands (confdata.c of each)
abbrev pub text_kind : Dialect → Kind
text_kind dialect.Linux = kind.Text
text_kind dialect.UBoot = kind.Raw
text_kind dialect.BusyBox = kind.Raw
text_kind dialect.Coreboot = kind.Text

-- the kind that `bool` names: BusyBox asks for a macro ENABLE_N as well (its scripts/kconfig/confdata.c)
abbrev pub bool_kind : Dialect → Kind
bool_kind dialect.Linux = kind.Bool
bool_kind dialect.UBoot = kind.Bool
bool_kind dialect.BusyBox = kind.Flag
bool_kind dialect.Coreboot = kind.Bool

-- BusyBox has no modules
abbrev pub has_modules : Dialect → Bool
has_modules dialect.Linux = true
has_modules dialect.UBoot = true
has_modules dialect.BusyBox = false
has_modules dialect.Coreboot = true

-- the kind that a word names, with a prompt or nothing after it
abbrev pub named_kind : Dialect → List ℕ → Option Kind
named_kind d word =
    if bytes_eq word (codes "bool") then Some (bool_kind d)
    else (if bytes_eq word (codes "tristate") then Some kind.Tristate
    else (if bytes_eq word (codes "string") then Some (text_kind d)
    else (if bytes_eq word (codes "int") then Some kind.Int
    else (if bytes_eq word (codes "hex") then Some kind.Hex else None))))

-- the kind that a word names, with a value after it
abbrev pub valued_kind : Dialect → List ℕ → Option Kind
valued_kind d word =
    if bytes_eq word (codes "def_bool") then Some (bool_kind d)
    else (if bytes_eq word (codes "def_tristate") then Some kind.Tristate else None)

abbrev pub kind_where : Bool → Option Kind → LineKind
kind_where b None = Unknown
kind_where b (Some k) = if b then HasKind k else Unknown

unfoldable pub kind_line_kind : Dialect → List ℕ → List ℕ → LineKind
kind_line_kind d word rest =
    if is_some (named_kind d word) then kind_where (length rest == 0 || is_prompt rest) (named_kind d word)
    else kind_where (is_one_word rest && is_state (first_word rest)) (valued_kind d word)

abbrev pub is_no_quote : ℕ → Bool
is_no_quote b = not (b == 34)

-- the title that goes up to the next quote, after which stand blanks
unfoldable pub title_line_kind : List ℕ → LineKind
title_line_kind rest =
    let title = take_while is_no_quote (drop 1 rest) in
    let following = drop (length title) (drop 1 rest) in
    if starts_with nat_eq rest (34 ∷ []) && starts_with nat_eq following (34 ∷ []) && list_all is_blank (drop 1 following) then Title title else Untitled

-- an entry, by its name
abbrev pub entry_line_kind : Dialect → List ℕ → LineKind
entry_line_kind d name = if has_modules d && is_name name && ends_with nat_eq name module_end then ModuleEntry else Entry name

-- the form of a line whose first word stands after no blanks, or after some
unfoldable pub word_line_kind : Dialect → Bool → List ℕ → List ℕ → LineKind
word_line_kind d at_front word rest =
    if bytes_eq word (codes "mainmenu") then (if at_front then title_line_kind rest else Untitled)
    else (if bytes_eq word (codes "config") || bytes_eq word (codes "menuconfig")
    then (if at_front && is_one_word rest then entry_line_kind d (first_word rest) else Unknown)
    else kind_line_kind d word rest)

unfoldable pub line_kind : Dialect → List ℕ → LineKind
line_kind d line =
    let text = skip_blanks line in
    if length text == 0 || starts_with nat_eq text (codes "#") then CommentOrBlank
    else word_line_kind d (length text == length line) (first_word text) (after_word text)
