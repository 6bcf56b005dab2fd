-- Whether an object was built by a command, by the files.
use Rattle.std.specs.Prelude.{◌≡◌, ◌⊎◌, ℕ, List, Option, Some, Result, Ok, Err, if◌then◌else◌, bytes_eq}
use Rattle.ks_symbols.specs.Names.{is_target}
use Rattle.ks_fixdep.specs.CommandFile.{CommandRecord, is_command}
use Rattle.ks_tree.specs.Files.{Files, content}
use Rattle.ks_tree.specs.Paths.{command_path}
use Rattle.ks_engine.specs.declared.error.EngineError.{EngineError}
use Rattle.ks_engine.specs.declared.error.EngineError.TheVariants.{BadPath, BadCommand}
use Rattle.ks_engine.specs.declared.staleness.Verdict.{Verdict}
use Rattle.ks_engine.specs.declared.staleness.BuildState.{BuildState}
use Rattle.ks_engine.specs.declared.staleness.BuildState.TheVariants.{CommandDiffers, Verdict as Evaluated}
use Rattle.ks_engine.specs.Asked.{Asked, AtOnce, asked_of, command_file, IsAnswer}
use Rattle.ks_engine.specs.Refusals.{IsAbortedAnswer}

-- the saved command is another one, or the rest is as asked
pub data BuildAsked : Type 0 where
  Differs : BuildAsked
  Asks : Asked → BuildAsked

abbrev pub build_asked_of : Files → List ℕ → Result (Option CommandRecord) EngineError → BuildAsked
build_asked_of files command (Ok (Some file)) = if bytes_eq file.command command then Asks (asked_of files (Ok (Some file))) else Differs
build_asked_of files command read = Asks (asked_of files read)

-- The two words come first; the command is compared before a generation or auto.conf is looked at.
unfoldable pub build_asked : Files → List ℕ → List ℕ → BuildAsked
build_asked files o command =
    if is_target o then (if is_command command then build_asked_of files command (command_file o (content files (command_path o)))
    else Asks (AtOnce (Err BadCommand)))
    else Asks (AtOnce (Err (BadPath 0)))

abbrev pub evaluated : Result Verdict EngineError → Result BuildState EngineError
evaluated (Ok verdict) = Ok (Evaluated verdict)
evaluated (Err e) = Err e

abbrev pub IsBuildState : Files → BuildAsked → Result BuildState EngineError → Type 0
IsBuildState files Differs answer = answer ≡ Ok CommandDiffers
IsBuildState files (Asks query) answer = (verdict : Result Verdict EngineError) × IsAnswer files query verdict × (answer ≡ evaluated verdict)

-- memory and the device aside
abbrev pub IsStateOn : Files → List ℕ → List ℕ → Result BuildState EngineError → Type 0
IsStateOn files o command answer = IsAbortedAnswer answer ⊎ IsBuildState files (build_asked files o command) answer
