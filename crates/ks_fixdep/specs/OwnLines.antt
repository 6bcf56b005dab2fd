-- What follows a record for a make that knows nothing of it: the command under the name of before Linux 6.3, and in U-Boot and BusyBox the
-- stamps by which their own tools go, which conf touched before Linux 5.
use Rattle.std.specs.Prelude.{ℕ, ◌==◌, Bool, true, not, ◌&&◌, IsTrue, List, [], ◌∷◌, ◌++◌, ◌≡◌, Option, IfSome, Ok, map, flat_map, codes, if◌then◌else◌, option_and_then}
use Rattle.std.specs.Char.{to_ascii_lowercase}
use Rattle.std.specs.Option.{option_map_or}
use Rattle.ks_symbols.specs.declared.dialect.Dialect.{Dialect}
use Rattle.ks_symbols.specs.declared.dialect.Dialect.TheVariants as dialect
use Rattle.ks_symbols.specs.Names.{is_path}
use Rattle.ks_fixdep.specs.CommandLayout.{name_mark}
use Rattle.ks_fixdep.specs.CommandLines.{following}
use Rattle.ks_fixdep.specs.CommandFile.{CommandRecord, IsLegal, command_text, ended, is_command}
use Rattle.ks_fixdep.specs.CommandReading.{reading}
use Rattle.ks_fixdep.specs.Record.{config_names}

-- the command under its other name is what is saved
abbrev pub cmd_line : List ℕ → List ℕ
cmd_line target = codes "cmd_" ++ target ++ codes " := $(savedcmd_" ++ target ++ codes ")"

-- foo/bar.h is the stamp of FOO_BAR
abbrev pub own_byte : ℕ → ℕ
own_byte b = if b == 95 then 47 else to_ascii_lowercase b

abbrev pub own_stamp_line : List ℕ → List ℕ
own_stamp_line name = name_mark ++ map own_byte name ++ codes ".h) \\"

-- a rule by which the target depends on those of these names too
abbrev pub own_rule : List ℕ → List (List ℕ) → List (List ℕ)
own_rule target names = (target ++ codes ": \\") ∷ map own_stamp_line names ++ [] ∷ []

abbrev pub own_lines : Dialect → List ℕ → List (List ℕ) → List (List ℕ)
own_lines dialect.Linux target names = cmd_line target ∷ []
own_lines other target names = cmd_line target ∷ own_rule target names

-- ---- for a make in another directory, as that of an external module

-- the name of a path in a directory, where it is below that
abbrev pub named_in : List ℕ → List ℕ → Option (List ℕ)
named_in directory path = option_and_then (following (codes "/")) (following directory path)

-- the stamp of a name as this make has it, which knows the tree by another name
abbrev pub stamp_line_of : List ℕ → List ℕ → List ℕ
stamp_line_of tree name = codes "    $(wildcard " ++ (tree ++ (codes "/include/config/" ++ (name ++ codes ") \\")))

-- what the record says, under the name that the object has there: what stands before the stamps and behind them, and all
abbrev pub front_for : (target name : List ℕ) → List (List ℕ)
front_for target name = (codes "savedcmd_" ++ name ++ codes " = $(savedcmd_" ++ target ++ codes ")") ∷ (codes "deps_" ++ name ++ codes " := \\") ∷ []

abbrev pub back_for : (target name : List ℕ) → List (List ℕ)
back_for target name = (codes "    $(deps_" ++ (target ++ codes ")")) ∷ [] ∷ (name ++ (codes ": $(deps_" ++ (name ++ codes ")"))) ∷ [] ∷ []

abbrev pub lines_for : (tree target name : List ℕ) → List (List ℕ) → List (List ℕ)
lines_for tree target name names = front_for target name ++ map (stamp_line_of tree) names ++ back_for target name

-- nothing, where the object isn't below the directory
abbrev pub elsewhere_lines : (directory tree target : List ℕ) → List (List ℕ) → List (List ℕ)
elsewhere_lines directory tree target names = option_map_or (λ name. lines_for tree target name names) (named_in directory target) []

-- ---- what a reader makes of them

-- a line that is no comment, as that of a generation is
abbrev pub is_further : List ℕ → Bool
is_further [] = true
is_further (b ∷ line) = not (b == 35) && is_command (b ∷ line)

-- what follows a record, the one and then the other, where they are asked for
abbrev pub further_lines : Bool → Dialect → Option (List ℕ × List ℕ) → List ℕ → List (List ℕ) → List (List ℕ)
further_lines owns dialect elsewhere target names =
    (if owns then own_lines dialect target names else [])
    ++ option_map_or (λ e. elsewhere_lines e.0 e.1 target names) elsewhere []

-- A record reads as without them.
abbrev pub FurtherLinesAreRead : Type 0
FurtherLinesAreRead = (owns : Bool) (d : Dialect) (elsewhere : Option (List ℕ × List ℕ)) (f : CommandRecord) → IsLegal f → IfSome elsewhere (λ e. IsTrue (is_path e.1))
    → reading (command_text f ++ flat_map ended (further_lines owns d elsewhere f.target (config_names f.deps))) ≡ Ok f
