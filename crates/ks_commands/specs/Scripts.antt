-- What a script asks for, by the files that it names.
use Rattle.std.specs.Prelude.{◌≡◌, ℕ, List, [], ◌∷◌, Option, Some, None, Result, Ok, Err, map}
use Rattle.ks_tree.specs.Files.{Files}
use Rattle.ks_engine.specs.declared.error.EngineError.{EngineError}
use Rattle.ks_engine.specs.Actions.{Action}
use Rattle.ks_engine.specs.Actions as asked
use Rattle.ks_engine.specs.Recorded.{no_options}
use Rattle.ks_engine.specs.Recording.{followed}
use Rattle.ks_engine.specs.Refusals.{IsAborted, and_then}
use Rattle.ks_requests.specs.Script.{Line, Sync, Record, Stale, script_lines}
use Rattle.ks_requests.specs.ScriptRefusals.{script_refusal}
use Rattle.ks_requests.specs.declared.script_error.ScriptError.{ScriptError}
use Rattle.ks_requests.specs.declared.refusal.Refusal.{Refusal}
use Rattle.ks_requests.specs.declared.refusal.Refusal.TheVariants.{Engine}
use Rattle.ks_requests.specs.Inputs.{given, read_texts}
use Rattle.ks_requests.specs.Refusals.{of_script}

-- What a line and an action say without the files of a synchronisation. An action that no line asks for says what no line does: none has an empty target.
abbrev pub without_files : Line → Line
without_files (Sync kconfig dotconfig) = Sync [] []
without_files line = line

abbrev pub line_of : Action → Line
line_of (asked.Sync kconfig dotconfig) = Sync [] []
line_of (asked.Record options depfile target command) = Record depfile target command
line_of (asked.Stale target) = Stale target
line_of action = Stale []

-- The actions are those of the lines of a script, whatever its files hold.
pub record AreSpelled (text : List ℕ) (actions : List Action) : Type 0 where
  pub faultless : script_refusal text ≡ None
  pub lines : map line_of actions ≡ map without_files (script_lines text)

-- what a line asks for, with the files at its paths
abbrev pub action_at : Files → Line → Result Action EngineError
action_at files (Sync kconfig dotconfig) = and_then (read_texts files kconfig dotconfig) (λ t. Ok (asked.Sync t.kconfig t.dotconfig))
action_at files (Record depfile target command) = Ok (asked.Record no_options depfile target command)
action_at files (Stale target) = Ok (asked.Stale target)

-- the actions of lines in their order, or the first refusal
abbrev pub actions_at : Files → List Line → Result (List Action) EngineError
actions_at files [] = Ok []
actions_at files (line ∷ lines) = followed (action_at files line) (actions_at files lines)

abbrev pub of_engine : {A : Type 0} → Result A EngineError → Result A Refusal
of_engine (Ok x) = Ok x
of_engine (Err e) = Err (Engine e)

abbrev pub unless_refused : Option ScriptError → Result (List Action) EngineError → Result (List Action) Refusal
unless_refused None actions = of_engine actions
unless_refused (Some e) actions = Err (of_script e)

-- what a script asks for, or its first faulty line
abbrev pub script_actions : Files → List ℕ → Result (List Action) Refusal
script_actions files text = unless_refused (script_refusal text) (actions_at files (script_lines text))

abbrev pub actions_of : Files → Result (List ℕ) EngineError → Result (List Action) Refusal
actions_of files (Ok text) = script_actions files text
actions_of files (Err e) = Err (Engine e)

-- The path, then the script, then its lines, then the files that they name.
unfoldable pub script_at : Files → List ℕ → Result (List Action) Refusal
script_at files path = actions_of files (given files path)

-- memory is refused, or the device fails: no file decides these
abbrev pub IsAbortedRefusal : Refusal → Type 0
IsAbortedRefusal (Engine e) = IsAborted e
IsAbortedRefusal r = ⊥
