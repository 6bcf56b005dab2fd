-- The words and the lines of a command file, by which its text is written and its reader reads: those of scripts/basic/fixdep.c. The prefix
-- `savedcmd_` and the line of the generation are this project's own.
use Rattle.std.specs.Prelude.{ℕ, List, ◌++◌, codes}

-- what the lines of the command and of the source begin with, before the target
abbrev pub saved_mark : List ℕ
saved_mark = codes "savedcmd_"

abbrev pub source_mark : List ℕ
source_mark = codes "source_"

-- what stands between the target and the command or the source
abbrev pub assignment : List ℕ
assignment = codes " := "

-- what the line of a listed file begins and ends with
abbrev pub file_mark : List ℕ
file_mark = codes "  "

abbrev pub file_end : List ℕ
file_end = codes " \\"

-- what the line of a name begins and ends with
abbrev pub name_mark : List ℕ
name_mark = codes "    $(wildcard include/config/"

abbrev pub name_end : List ℕ
name_end = codes ") \\"

-- what the line of a generation begins with
abbrev pub generation_mark : List ℕ
generation_mark = codes "#generation "

-- the command, by target
abbrev pub saved_line : List ℕ → List ℕ → List ℕ
saved_line target command = saved_mark ++ target ++ assignment ++ command

-- the source, by target
abbrev pub source_line : List ℕ → List ℕ → List ℕ
source_line target source = source_mark ++ target ++ assignment ++ source

-- a listed file
abbrev pub file_line : List ℕ → List ℕ
file_line path = file_mark ++ path ++ file_end

-- a name that is found in a source
abbrev pub name_line : List ℕ → List ℕ
name_line name = name_mark ++ name ++ name_end

-- the lines around those of the dependencies, by target
abbrev pub deps_begin : List ℕ → List ℕ
deps_begin target = codes "deps_" ++ target ++ codes " := \\"

abbrev pub target_line : List ℕ → List ℕ
target_line target = target ++ codes ": $(deps_" ++ target ++ codes ")"

abbrev pub deps_end : List ℕ → List ℕ
deps_end target = codes "$(deps_" ++ target ++ codes "):"
