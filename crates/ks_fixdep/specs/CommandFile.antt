-- What a command file says, and its text, in the lines of `CommandLayout`.
use Rattle.std.specs.Prelude.{◌<◌, ◌^◌, ◌&&◌, ◌==◌, ℕ, Bool, not, IsTrue, List, [], ◌∷◌, ◌++◌, Option, Some, None, IfSome, map, flat_map, decimal}
use Rattle.std.specs.List.{list_all}
use Rattle.ks_symbols.specs.Names.{is_name, is_path, is_target}
use Rattle.ks_fixdep.specs.declared.command_file.Dep.{Dep}
use Rattle.ks_fixdep.specs.declared.command_file.Dep.TheVariants.{File, Config}
use Rattle.ks_fixdep.specs.declared.command_file.CommandFile as code
use Rattle.ks_fixdep.specs.CommandLines.{line_feed}
use Rattle.ks_fixdep.specs.CommandLayout.{saved_line, source_line, file_line, name_line, deps_begin, target_line, deps_end, generation_mark}

-- a command file without where it lies in memory
pub record CommandRecord : Type 0 where
  pub target : List ℕ
  pub command : List ℕ
  pub source : List ℕ
  pub deps : List Dep
  pub generation : Option ℕ

abbrev pub view : code.CommandFile → CommandRecord
view f = record { target = f.target; command = f.command.items; source = f.source; deps = f.deps.items; generation = f.generation }

-- no line feed, carriage return or NUL
abbrev pub is_command_byte : ℕ → Bool
is_command_byte b = not (b == 10) && not (b == 13) && not (b == 0)

unfoldable pub is_command : List ℕ → Bool
is_command command = list_all is_command_byte command

-- a legal path, or a legal name
abbrev pub is_dep : Dep → Bool
is_dep (File path) = is_path path
is_dep (Config name) = is_name name

-- each part is legal
pub record IsLegal (f : CommandRecord) : Type 0 where
  pub target : IsTrue (is_target f.target)
  pub command : IsTrue (is_command f.command)
  pub source : IsTrue (is_path f.source)
  pub deps : IsTrue (list_all is_dep f.deps)
  pub generation : IfSome f.generation (λ g. g < 2 ^ 64)

-- a listed file, or a name that is found in a source
abbrev pub dep_line : Dep → List ℕ
dep_line (File path) = file_line path
dep_line (Config name) = name_line name

-- the lines before those of the dependencies
abbrev pub front_lines : List ℕ → List ℕ → List ℕ → List (List ℕ)
front_lines target command source = saved_line target command ∷ [] ∷ source_line target source ∷ [] ∷ deps_begin target ∷ []

-- the lines after those of the dependencies
abbrev pub back_lines : List ℕ → List (List ℕ)
back_lines target = [] ∷ target_line target ∷ [] ∷ deps_end target ∷ []

-- the lines but for that of the generation
abbrev pub layout : CommandRecord → List (List ℕ)
layout f = front_lines f.target f.command f.source ++ map dep_line f.deps ++ back_lines f.target

abbrev pub generation_line : Option ℕ → List (List ℕ)
generation_line None = []
generation_line (Some g) = (generation_mark ++ decimal g) ∷ []

-- a line with its end
abbrev pub ended : List ℕ → List ℕ
ended line = line ++ line_feed

-- the text
abbrev pub command_text : CommandRecord → List ℕ
command_text f = flat_map ended (layout f ++ generation_line f.generation)
