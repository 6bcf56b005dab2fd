-- Which lines of a C header a configuration explains: empty ones, comments, and the definitions that confstamp writes of its entries. That a
-- header with any other line is told from those is a rule of this project.
use Rattle.std.specs.Prelude.{ℕ, ◌+◌, Bool, ◌||◌, ◌&&◌, not, false, true, nat_eq, List, [], ◌∷◌, ◌++◌, ◌==◌, length, codes, bytes_eq, Option, Some, None, if◌then◌else◌}
use Rattle.std.specs.List.{ends_with, list_any, starts_with}
use Rattle.std.specs.FinMap as map
use Rattle.ks_symbols.specs.declared.dialect.Dialect.{Dialect}
use Rattle.ks_symbols.specs.declared.dialect.Dialect.TheVariants as dialect
use Rattle.ks_symbols.specs.declared.kinds.Class.{Class}
use Rattle.ks_symbols.specs.declared.kinds.Class.TheVariants as class
use Rattle.ks_symbols.specs.declared.kinds.Kind.{Kind}
use Rattle.ks_symbols.specs.declared.kinds.Kind.TheVariants as kind
use Rattle.ks_symbols.specs.Lines.{lines}
use Rattle.ks_symbols.specs.Names.{is_name, module_end, without_module}
use Rattle.ks_symbols.specs.Titles.{ends_comment}
use Rattle.ks_output.specs.Definitions.{run_of}
use Rattle.ks_output.specs.Header.{front, defined_as}
use Rattle.ks_output.specs.OldConfig.{Texts}

-- a kind that stands for its class: the definitions of the others of that class are the same bytes
abbrev pub kind_for : Class → Kind
kind_for class.Switch = kind.Bool
kind_for class.Text = kind.Text
kind_for class.Int = kind.Int
kind_for class.Hex = kind.Hex
kind_for class.Raw = kind.Raw
kind_for class.Flag = kind.Flag

-- the definition that confstamp writes of an entry, without its LF
abbrev pub definition : List ℕ → Kind → List ℕ → List ℕ
definition name k text = front k ++ name ++ defined_as k text

-- A line is the definition of what a name has, if that has a class: an untyped auto.conf doesn't tell it.
abbrev pub is_definition : List ℕ → List ℕ → Option (Option Class × List ℕ) → Bool
is_definition line name (Some (Some k, text)) = bytes_eq line (definition name (kind_for k) text)
is_definition line name entry = false

unfoldable pub defines_entry : Texts → List ℕ → List ℕ → Bool
defines_entry texts line name = is_definition line name (map.get texts name)

-- The macro that a line would define is the run of word bytes behind the first 15, and the name is that, or that without _MODULE.
unfoldable pub is_of_entry : Texts → List ℕ → Bool
is_of_entry texts line =
    let run = run_of line in defines_entry texts line run || (ends_with nat_eq run module_end && defines_entry texts line (without_module run))

-- In coreboot's header a bool that is off is 0, and it has no entry.
unfoldable pub is_off_macro : Texts → List ℕ → Bool
is_off_macro texts line =
    let run = run_of line in
    is_name run && not (map.contains_key texts run) && bytes_eq line (codes "#define CONFIG_" ++ run ++ codes " 0")

abbrev pub is_off_in : Dialect → Texts → List ℕ → Bool
is_off_in dialect.Coreboot texts line = is_off_macro texts line
is_off_in d texts line = false

-- Whether what follows a line stands in a comment, by whether the line itself does
abbrev pub comment_after : Bool → List ℕ → Bool
comment_after in_comment line = if in_comment then not (bytes_eq line (codes " */")) else bytes_eq line (codes "/*")

-- A backslash at the end of a line joins it to the next one, and both may end a comment together.
abbrev pub has_backslash : List ℕ → Bool
has_backslash line = list_any (λ b. b == 92) line

-- A line of a comment that ends it nowhere, has no backslash and is no directive: a definition can't hide in a comment.
abbrev pub is_plain_remark : List ℕ → Bool
is_plain_remark line = not (ends_comment line || has_backslash line || starts_with nat_eq line (codes "#"))

-- In a comment such a line is explained, and its last one.
abbrev pub is_explained : Dialect → Texts → Bool → List ℕ → Bool
is_explained d texts in_comment line =
    if in_comment then bytes_eq line (codes " */") || is_plain_remark line
    else length line == 0 || bytes_eq line (codes "/*") || is_of_entry texts line || is_off_in d texts line

-- the number of the first line that is not explained, where they are counted from n on
unfoldable pub foreign_from : Dialect → Texts → Bool → ℕ → List (List ℕ) → Option ℕ
foreign_from d texts in_comment n [] = None
foreign_from d texts in_comment n (l ∷ ls) =
    if is_explained d texts in_comment l then foreign_from d texts (comment_after in_comment l) (n + 1) ls else Some n

-- the same of a whole header, whose lines end at LF or CR LF
unfoldable pub foreign_line : Dialect → Texts → List ℕ → Option ℕ
foreign_line d texts header = foreign_from d texts false 1 (lines header)

-- whether a line is one of those
abbrev pub has_line : List (List ℕ) → List ℕ → Bool
has_line ls line = list_any (bytes_eq line) ls

-- whether an entry's definition is none of the lines: nobody knows that of one without a class
abbrev pub is_lacking : List (List ℕ) → List ℕ × (Option Class × List ℕ) → Bool
is_lacking ls (name, (Some k, text)) = not (has_line ls (definition name (kind_for k) text))
is_lacking ls entry = true

-- whether the definition of some entry is no line of the header
unfoldable pub lacks : Texts → List ℕ → Bool
lacks texts header = list_any (λ e. is_lacking (lines header) e) (map.entries texts)
