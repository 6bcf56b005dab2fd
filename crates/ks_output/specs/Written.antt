-- What a project's own conf wrote: auto.conf and the header, a line of the one for each line of the other (__conf_write_autoconf of
-- scripts/kconfig/confdata.c, which walks over the symbols twice in one order). A pair of any other form is refused: a rule of this project.
use Rattle.std.specs.Prelude.{ℕ, Bool, ◌&&◌, ◌||◌, not, nat_eq, nat_lt, ◌+◌, ◌-◌, List, [], ◌∷◌, ◌++◌, length, codes, take, drop, take_while, bytes_eq, find, Option, Some, None, Result, Ok, Err, if◌then◌else◌}
use Rattle.std.specs.List.{starts_with, ends_with}
use Rattle.std.specs.FinMap as map
use Rattle.bstr.specs.Text.{lines_of}
use Rattle.ks_symbols.specs.declared.kinds.Kind.{Kind}
use Rattle.ks_symbols.specs.declared.kinds.Kind.TheVariants as kind
use Rattle.ks_symbols.specs.Names.{module_end}
use Rattle.ks_symbols.specs.Lines.{max_bytes, is_no_line_feed}
use Rattle.ks_symbols.specs.Kinds.{fits, is_text, is_off}
use Rattle.ks_symbols.specs.Titles.{is_title}
use Rattle.ks_symbols.specs.Statements.{Statement, Assigns, statement}
use Rattle.ks_symbols.specs.Configuration.{Configuration}
use Rattle.ks_output.specs.Header.{header_heading, definition_line}
use Rattle.ks_output.specs.declared.written.WrittenError.{WrittenError}
use Rattle.ks_output.specs.declared.written.WrittenError.TheVariants as fault

-- The heading of auto.conf as conf has it, and the title in it: the third line from its third byte on
abbrev pub conf_heading : List ℕ → List ℕ
conf_heading title = codes "#\n# Automatically generated file; DO NOT EDIT.\n# " ++ title ++ codes "\n#\n"

abbrev pub title_in : List ℕ → List ℕ
title_in auto = take_while is_no_line_feed (drop 49 auto)

-- The heading of the header: that of Linux, which confstamp writes too, or that of an older conf, as U-Boot and Xen have one
abbrev pub older_heading : List ℕ → List ℕ
older_heading title = codes "/*\n *\n * Automatically generated file; DO NOT EDIT.\n * " ++ title ++ codes "\n *\n */\n"

unfoldable pub heading_of : List ℕ → List ℕ → List ℕ
heading_of title header = if starts_with nat_eq header (older_heading title) then older_heading title else header_heading title

-- What follows the headings, where both texts begin with one and it has one title
unfoldable pub bodies : List ℕ → List ℕ → Option (List ℕ × List ℕ)
bodies auto header =
    let title = title_in auto in
    if is_title title && starts_with nat_eq auto (conf_heading title) && starts_with nat_eq header (heading_of title header)
    then Some (drop (length (conf_heading title)) auto, drop (length (heading_of title header)) header) else None

-- A line of auto.conf is CONFIG_, a name, =, a value and LF.
abbrev pub as_entry : Option Statement → Option (List ℕ × List ℕ)
as_entry (Some (Assigns name value)) = Some (name, value)
as_entry said = None

unfoldable pub given_by : List ℕ → Option (List ℕ × List ℕ)
given_by line = if ends_with nat_eq line (codes "\n") then as_entry (statement (take (length line - 1) line)) else None

-- A kind explains a line of the header: name and value are such as the kind has, the value is no n, and the line is the one that confstamp
-- would write of them.
unfoldable pub explains : List ℕ → List ℕ → List ℕ → Kind → Bool
explains name value line k = fits k name && is_text k value && not (is_off k value) && bytes_eq line (definition_line name k value)

abbrev pub kinds : List Kind
kinds = kind.Bool ∷ kind.Tristate ∷ kind.Int ∷ kind.Hex ∷ kind.Text ∷ kind.Raw ∷ kind.Companion ∷ kind.EmptyInt ∷ kind.EmptyHex ∷ []

unfoldable pub explained : List ℕ → List ℕ → List ℕ → Option Kind
explained name value line = find (explains name value line) kinds

-- The configuration after one more pair of lines, which have one number, or what is wrong with them
abbrev pub with_kind : ℕ → Configuration → List ℕ → List ℕ → Option Kind → Result Configuration WrittenError
with_kind n before name value None = Err (if ends_with nat_eq name module_end then fault.ModuleSymbol n else fault.Unexplained n)
with_kind n before name value (Some k) = Ok (map.insert before name (k, value))

unfoldable pub with_entry : ℕ → Configuration → List ℕ → Option (List ℕ × List ℕ) → Result Configuration WrittenError
with_entry n before line None = Err (fault.NotAnEntry n)
with_entry n before line (Some e) =
    if map.contains_key before e.0 then Err (fault.Twice n) else with_kind n before e.0 e.1 (explained e.0 e.1 line)

abbrev pub chain : Result Configuration WrittenError → (Configuration → Result Configuration WrittenError) → Result Configuration WrittenError
chain (Ok settings) later = later settings
chain (Err e) later = Err e

-- and after several, up to the end of both
unfoldable pub with_pairs : ℕ → Configuration → List (List ℕ) → List (List ℕ) → Result Configuration WrittenError
with_pairs n before [] [] = Ok before
with_pairs n before [] (h ∷ hs) = Err (fault.Undeclared n)
with_pairs n before (l ∷ ls) [] = Err (fault.Undefined n)
with_pairs n before (l ∷ ls) (h ∷ hs) = chain (with_entry n before h (given_by l)) (λ after. with_pairs (n + 1) after ls hs)

-- The lines are taken with their LF, and those of both are numbered from 5 on, after the heading.
unfoldable pub pairs_of : List ℕ → List ℕ → Result Configuration WrittenError
pairs_of autos definitions = with_pairs 5 map.empty (lines_of autos) (lines_of definitions)

abbrev pub read_bodies : Option (List ℕ × List ℕ) → Result Configuration WrittenError
read_bodies None = Err fault.BadHeading
read_bodies (Some b) = pairs_of b.0 b.1

-- The configuration that two texts mean, or why they are refused
unfoldable pub written : List ℕ → List ℕ → Result Configuration WrittenError
written auto header =
    if nat_lt max_bytes (length auto) || nat_lt max_bytes (length header) then Err fault.TooLarge else read_bodies (bodies auto header)
