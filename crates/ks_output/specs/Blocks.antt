-- What BusyBox's conf wrote: .config and the header, of which each line of the one has a block of lines in the other (conf_write of its
-- scripts/kconfig/confdata.c, which writes both on one walk over its menus). A pair of any other form is refused: a rule of this project.
use Rattle.std.specs.Prelude.{ℕ, Bool, false, true, ◌&&◌, not, nat_eq, nat_lt, ◌+◌, ◌-◌, ◌==◌, ◌||◌, List, [], ◌∷◌, ◌++◌, length, codes, take, drop, take_while, bytes_eq, find, Option, Some, None, Result, Ok, Err, if◌then◌else◌}
use Rattle.std.specs.List.{starts_with, ends_with, list_all}
use Rattle.std.specs.FinMap as map
use Rattle.bstr.specs.Text.{lines_of}
use Rattle.ks_symbols.specs.declared.kinds.Kind.{Kind}
use Rattle.ks_symbols.specs.declared.kinds.Kind.TheVariants as kind
use Rattle.ks_symbols.specs.Lines.{max_bytes, is_no_line_feed}
use Rattle.ks_symbols.specs.Kinds.{is_text, is_off, fits, is_string_byte}
use Rattle.ks_symbols.specs.Titles.{is_title, ends_comment}
use Rattle.ks_symbols.specs.Statements.{Statement, Assigns, Unsets, statement}
use Rattle.ks_symbols.specs.Configuration.{Configuration}
use Rattle.ks_output.specs.Header.{definition_line}
use Rattle.ks_output.specs.SeenNames.{is_in}
use Rattle.ks_output.specs.declared.blocks.Place.{Place}
use Rattle.ks_output.specs.declared.blocks.Place.TheVariants as place
use Rattle.ks_output.specs.declared.written.WrittenError.{WrittenError}
use Rattle.ks_output.specs.declared.written.WrittenError.TheVariants as fault

-- The heading of .config, up to the title in its third line; behind it a line with the time, if conf writes one, and # alone
abbrev pub config_front : List ℕ
config_front = codes "#\n# Automatically generated make config: don't edit\n# "

abbrev pub block_title : List ℕ → List ℕ
block_title config = take_while is_no_line_feed (drop 54 config)

abbrev pub has_time : List ℕ → Bool
has_time rest = starts_with nat_eq rest (codes "# ")

abbrev pub after_time : List ℕ → List ℕ
after_time rest = if has_time rest then drop (length (take_while is_no_line_feed rest) + 1) rest else rest

-- What follows the heading, with the number of its first line
unfoldable pub config_body : List ℕ → Option (ℕ × List ℕ)
config_body config =
    let rest = drop (length (block_title config) + 55) config in
    if is_title (block_title config) && starts_with nat_eq config config_front && starts_with nat_eq (after_time rest) (codes "#\n")
    then Some (if has_time rest then 6 else 5, drop 2 (after_time rest)) else None

-- The heading of the header: the same title, and a string with the time, which may be empty
abbrev pub header_front : List ℕ → List ℕ
header_front title = codes "/*\n * Automatically generated C config: don't edit\n * " ++ title ++ codes "\n */\n#define AUTOCONF_TIMESTAMP \""

abbrev pub is_time_byte : ℕ → Bool
is_time_byte b = is_string_byte b && not (b == 34)

abbrev pub block_heading : List ℕ → List ℕ → List ℕ
block_heading title header = header_front title ++ take_while is_time_byte (drop (length (header_front title)) header) ++ codes "\"\n\n"

unfoldable pub header_body : List ℕ → List ℕ → Option (List ℕ)
header_body title header =
    if starts_with nat_eq header (block_heading title header) then Some (drop (length (block_heading title header)) header) else None

-- The block of a bool that is off, ..
abbrev pub off_block : List ℕ → List ℕ
off_block name =
    codes "#undef CONFIG_" ++ name ++ codes "\n#define ENABLE_" ++ name ++ codes " 0\n#define IF_" ++ name ++ codes "(...)\n#define IF_NOT_" ++ name
    ++ codes "(...) __VA_ARGS__\n"

-- .. and that of a value: its macro, and what each symbol has besides that has a value
abbrev pub value_line : List ℕ → Kind → List ℕ → List ℕ
value_line name kind.Flag value = codes "#define CONFIG_" ++ name ++ codes " 1\n"
value_line name k value = definition_line name k value

abbrev pub enabling : List ℕ → List ℕ
enabling name =
    codes "#define ENABLE_" ++ name ++ codes " 1\n#ifdef MAKE_SUID\n# define IF_" ++ name ++ codes "(...) __VA_ARGS__ \"CONFIG_" ++ name
    ++ codes "\"\n#else\n# define IF_" ++ name ++ codes "(...) __VA_ARGS__\n#endif\n#define IF_NOT_" ++ name ++ codes "(...)\n"

abbrev pub on_block : List ℕ → Kind → List ℕ → List ℕ
on_block name k value = value_line name k value ++ enabling name

-- A kind explains what is left of the header: the value is one of the kind, no n, and its block comes next. The first one counts.
unfoldable pub explains_block : List ℕ → List ℕ → List ℕ → Kind → Bool
explains_block name value left k = is_text k value && not (is_off k value) && starts_with nat_eq left (on_block name k value)

abbrev pub block_kinds : List Kind
block_kinds = kind.Flag ∷ kind.Int ∷ kind.Hex ∷ kind.Raw ∷ []

unfoldable pub explained_block : List ℕ → List ℕ → List ℕ → Option Kind
explained_block name value left = find (explains_block name value left) block_kinds

-- What several lines come to: where the next one stands, the names that came, the entries, and what is left of the header
pub record Walk : Type 0 where
  pub place : Place
  pub names : List (List ℕ)
  pub settings : Configuration
  pub left : List ℕ

abbrev pub walk_at : Place → List (List ℕ) → Configuration → List ℕ → Walk
walk_at p names settings left = record { place = p; names = names; settings = settings; left = left }

-- why a line has no block
abbrev pub missing : ℕ → List ℕ → WrittenError
missing n left = if length left == 0 then fault.Undefined n else fault.Unexplained n

-- what is left behind a block
abbrev pub behind : ℕ → List ℕ → List ℕ → Result (List ℕ) WrittenError
behind n left block = if starts_with nat_eq left block then Ok (drop (length block) left) else Err (missing n left)

-- the entries and what is left, after the value of a new name by its kind
abbrev pub valued : ℕ → Configuration → List ℕ → List ℕ → List ℕ → Option Kind → Result (Configuration × List ℕ) WrittenError
valued n settings left name value None = Err (missing n left)
valued n settings left name value (Some k) =
    if fits k name then Ok (map.insert settings name (k, value), drop (length (on_block name k value)) left) else Err (fault.ModuleSymbol n)

-- the walk goes on with what they come to
abbrev pub passed : Place → List (List ℕ) → Configuration → Result (List ℕ) WrittenError → Result Walk WrittenError
passed p names settings (Ok left) = Ok (walk_at p names settings left)
passed p names settings (Err e) = Err e

abbrev pub entered : List (List ℕ) → Result (Configuration × List ℕ) WrittenError → Result Walk WrittenError
entered names (Ok r) = Ok (walk_at place.Between names r.0 r.1)
entered names (Err e) = Err e

-- after what a line says of a name
unfoldable pub stated : ℕ → Walk → Option Statement → Result Walk WrittenError
stated n w None = Err (fault.NotAnEntry n)
stated n w (Some (Unsets name)) =
    if is_in name w.names then Err (fault.Twice n)
    else passed place.Between (w.names ++ name ∷ []) w.settings (behind n w.left (off_block name))
stated n w (Some (Assigns name value)) =
    if is_in name w.names then Err (fault.Twice n)
    else entered (w.names ++ name ∷ []) (valued n w.settings w.left name value (explained_block name value w.left))

-- a line as it is written, without the LF at its end
abbrev pub less_lf : List ℕ → List ℕ
less_lf line = take (length line - 1) line

unfoldable pub said : List ℕ → Option Statement
said line = if ends_with nat_eq line (codes "\n") then statement (less_lf line) else None

-- A menu's title must not end the comment that it stands in.
unfoldable pub is_menu_line : List ℕ → Bool
is_menu_line line =
    starts_with nat_eq line (codes "# ") && ends_with nat_eq line (codes "\n") && list_all is_string_byte (less_lf line) && not (ends_comment line)

abbrev pub titled : ℕ → List ℕ → List ℕ → Result (List ℕ) WrittenError
titled n left line = if is_menu_line line then behind n left (codes " *" ++ drop 1 line) else Err (fault.NotAnEntry n)

-- after one more line: an empty one, the first of a menu, which is # alone, a statement; the menu's title; and # alone again
unfoldable pub with_line : ℕ → Walk → List ℕ → Place → Result Walk WrittenError
with_line n w line place.Between =
    if bytes_eq line (codes "\n") then passed place.Between w.names w.settings (behind n w.left (codes "\n"))
    else (if bytes_eq line (codes "#\n") then passed place.Opened w.names w.settings (behind n w.left (codes "/*\n")) else stated n w (said line))
with_line n w line place.Opened = passed place.Titled w.names w.settings (titled n w.left line)
with_line n w line place.Titled =
    if bytes_eq line (codes "#\n") then passed place.Between w.names w.settings (behind n w.left (codes " */\n")) else Err (fault.NotAnEntry n)

abbrev pub go_on : Result Walk WrittenError → (Walk → Result Configuration WrittenError) → Result Configuration WrittenError
go_on (Ok w) later = later w
go_on (Err e) later = Err e

-- both end together, between blocks
abbrev pub is_between : Place → Bool
is_between place.Between = true
is_between p = false

-- and after all that are left
unfoldable pub with_lines : ℕ → Walk → List (List ℕ) → Result Configuration WrittenError
with_lines n w [] = if is_between w.place && length w.left == 0 then Ok w.settings else Err (fault.Undeclared n)
with_lines n w (l ∷ ls) = go_on (with_line n w l w.place) (λ after. with_lines (n + 1) after ls)

abbrev pub first_walk : List ℕ → Walk
first_walk left = walk_at place.Between [] map.empty left

abbrev pub blocks_of : Option (ℕ × List ℕ) → Option (List ℕ) → Result Configuration WrittenError
blocks_of None found = Err fault.BadHeading
blocks_of (Some b) None = Err fault.BadHeading
blocks_of (Some b) (Some left) = with_lines b.0 (first_walk left) (lines_of b.1)

-- The configuration that two texts mean, or why they are refused. The line is that of .config.
unfoldable pub blocks_written : List ℕ → List ℕ → Result Configuration WrittenError
blocks_written config header =
    if nat_lt max_bytes (length config) || nat_lt max_bytes (length header) then Err fault.TooLarge
    else blocks_of (config_body config) (header_body (block_title config) header)
