-- The forms of the lines of a command file: what a line of each form says. Rules of this project.
use Rattle.std.specs.Prelude.{ℕ, ◌+◌, Bool, ◌&&◌, List, length, take, drop, Option, Some, None, if◌then◌else◌, option_and_then}
use Rattle.memchr.specs.Find.{first_of, matches}
use Rattle.ks_symbols.specs.Names.{is_name, is_path, is_target}
use Rattle.ks_fixdep.specs.declared.command_file.Dep.{Dep}
use Rattle.ks_fixdep.specs.declared.command_file.Dep.TheVariants.{File, Config}
use Rattle.ks_fixdep.specs.CommandLines.{following, between}
use Rattle.ks_fixdep.specs.CommandLayout.{saved_mark, source_mark, assignment, file_mark, file_end, name_mark, name_end}
use Rattle.ks_fixdep.specs.CommandFile.{is_command}

-- the value, if it passes
abbrev pub checked : {A : Type 0} → (A → Bool) → A → Option A
checked test x = if test x then Some x else None

-- what stands before and after a separator at a place
abbrev pub cut : List ℕ → List ℕ → Option ℕ → Option (List ℕ × List ℕ)
cut separator xs None = None
cut separator xs (Some k) = Some (take k xs, drop (k + length separator) xs)

-- what stands before and after the first separator
abbrev pub split_once : List ℕ → List ℕ → Option (List ℕ × List ℕ)
split_once separator xs = cut separator xs (first_of (matches xs separator 0))

-- the target and the command
unfoldable pub saved_command : List ℕ → Option (List ℕ × List ℕ)
saved_command line =
    option_and_then (checked (λ p. is_target p.0 && is_command p.1))
    (option_and_then (split_once assignment) (following saved_mark line))

-- the source
unfoldable pub source_in : List ℕ → List ℕ → Option (List ℕ)
source_in target line =
    let named = option_and_then (following target) (following source_mark line) in
    option_and_then (checked is_path) (option_and_then (following assignment) named)

-- the path of a listed file
unfoldable pub path_in : List ℕ → Option (List ℕ)
path_in line = option_and_then (checked is_path) (between file_mark file_end line)

-- the name that was found
unfoldable pub name_in : List ℕ → Option (List ℕ)
name_in line = option_and_then (checked is_name) (between name_mark name_end line)

abbrev pub either_dep : Option (List ℕ) → Option (List ℕ) → Option Dep
either_dep (Some name) path = Some (Config name)
either_dep None (Some path) = Some (File path)
either_dep None None = None

-- the file or the name of a dependency line
unfoldable pub dep_in : List ℕ → Option Dep
dep_in line = either_dep (name_in line) (path_in line)
