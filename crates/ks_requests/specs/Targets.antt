-- The objects that a question is about: those among its arguments, and after them those that a file holds, one a line.
use Rattle.std.specs.Prelude.{◌++◌, ◌==◌, not, ℕ, List, [], length, map, option_map, string_bytes, Option, Some, None, Result, Ok}
use Rattle.std.specs.List.{filter}
use Rattle.ks_symbols.specs.Lines.{lines}
use Rattle.ks_tree.specs.Files.{Files}
use Rattle.ks_engine.specs.declared.error.EngineError.{EngineError}
use Rattle.ks_engine.specs.Refusals.{and_then}
use Rattle.ks_requests.specs.declared.request.Targets.{Targets}
use Rattle.ks_requests.specs.Inputs.{given_if_named}

-- the lines of a text that are not empty, whatever they hold
unfoldable pub targets_in : List ℕ → List (List ℕ)
targets_in text = filter (λ line. not (length line == 0)) (lines text)

abbrev pub targets_if_named : Option (List ℕ) → List (List ℕ)
targets_if_named None = []
targets_if_named (Some text) = targets_in text

-- the targets of the arguments, and then those of the file
abbrev pub with_file : List (List ℕ) → Option (List ℕ) → List (List ℕ)
with_file args text = args ++ targets_if_named text

abbrev pub args_of : Targets → List (List ℕ)
args_of targets = map (λ word. string_bytes word) targets.args.items

abbrev pub file_of : Targets → Option (List ℕ)
file_of targets = option_map (λ path. string_bytes path) targets.from

-- all of them, or why the file is refused
abbrev pub targets_at : Files → Targets → Result (List (List ℕ)) EngineError
targets_at files targets = and_then (given_if_named files (file_of targets)) (λ text. Ok (with_file (args_of targets) text))
