-- What is recorded of an object: its source, its listed files, and the names that each of its prerequisites has first (fixdep.c; that a
-- name stands with its first prerequisite is a rule of this project).
use Rattle.std.specs.Prelude.{ℕ, List, [], ◌∷◌, ◌++◌, map, filter, not, Option, None, Some, if◌then◌else◌}
use Rattle.std.specs.List.{list_any}
use Rattle.std.specs.Str.{bytes_eq}
use Rattle.ks_symbols.specs.Names.{is_target}
use Rattle.ks_fixdep.specs.CommandFile.{is_command}
use Rattle.ks_fixdep.specs.CommandFile as command_file
use Rattle.ks_fixdep.specs.declared.command_file.Dep.{Dep}
use Rattle.ks_fixdep.specs.declared.command_file.Dep.TheVariants.{File, Config}
use Rattle.ks_fixdep.specs.FoundNames.{all_noted}
use Rattle.ks_fixdep.specs.declared.dep_error.DepError.{DepError}
use Rattle.ks_fixdep.specs.declared.dep_error.DepError.TheVariants as errors
use Rattle.ks_fixdep.specs.declared.dependency_file.Role.{Role}
use Rattle.ks_fixdep.specs.declared.dependency_file.Role.TheVariants as role

-- the names, each once, that no prerequisite before has
abbrev pub new_names : List (List ℕ) → List (List ℕ) → List (List ℕ)
new_names before names = filter (λ x. not (list_any (bytes_eq x) before)) (all_noted [] names)

-- a line of its own where it is listed
abbrev pub own_line : List ℕ × Role → List Dep
own_line (path, role.Listed) = File path ∷ []
own_line (path, role.Source) = []
own_line (path, role.Scanned) = []

-- For each prerequisite its own line, and its names that those before have not. Past the last one, as in the words of a command, only names are found.
abbrev pub deps_after : List (List ℕ) → List (List ℕ × Role) → List (List (List ℕ)) → List Dep
deps_after before ps [] = []
deps_after before [] (names ∷ found) = map Config (new_names before names) ++ deps_after (all_noted before names) [] found
deps_after before (p ∷ ps) (names ∷ found) = own_line p ++ (map Config (new_names before names) ++ deps_after (all_noted before names) ps found)

-- the first prerequisite
abbrev pub source_of : List (List ℕ × Role) → List ℕ
source_of [] = []
source_of (p ∷ ps) = p.0

-- the command file of a target, from its prerequisites and the names found in each, and then elsewhere; it has no generation yet
abbrev pub record_of : List ℕ → List ℕ → List (List ℕ × Role) → List (List (List ℕ)) → command_file.CommandRecord
record_of target command ps found =
    record { target = target; command = command; source = source_of ps; deps = deps_after [] ps found; generation = None }

-- its text, with the line of a generation where it has one
abbrev pub record_text : List ℕ → List ℕ → List (List ℕ × Role) → List (List (List ℕ)) → Option ℕ → List ℕ
record_text target command ps found generation = command_file.command_text (record (record_of target command ps found) { generation = generation })

-- why a record is refused: first its target, then its command
abbrev pub record_refusal : List ℕ → List ℕ → Option DepError
record_refusal target command =
    if is_target target then (if is_command command then None else Some errors.BadCommand)
    else Some (errors.BadPath 0)

-- the names among dependency lines
abbrev pub config_names : List Dep → List (List ℕ)
config_names [] = []
config_names (File path ∷ deps) = config_names deps
config_names (Config name ∷ deps) = name ∷ config_names deps
