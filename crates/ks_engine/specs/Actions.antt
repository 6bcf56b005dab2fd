-- What is asked of a tree, and what is answered, by the bytes alone.
use Rattle.std.specs.Prelude.{ℕ, List, [], ◌∷◌, Option, Some, None, Result, Ok, Err}
use Rattle.ks_symbols.specs.Dialects.{KconfigText}
use Rattle.ks_fixdep.specs.declared.dependency_file.Header.{Header}
use Rattle.ks_fixdep.specs.CommandFile.{CommandRecord}
use Rattle.ks_engine.specs.Recorded.{no_options}
use Rattle.ks_engine.specs.Sources.{Source}
use Rattle.ks_engine.specs.declared.backdating.BackdateScope.{BackdateScope}
use Rattle.ks_engine.specs.declared.commands.Command.{Command}
use Rattle.ks_engine.specs.declared.conventions.RecordOptions.{RecordOptions}
use Rattle.ks_engine.specs.declared.commands.Command.TheVariants as command
use Rattle.ks_engine.specs.declared.commands.Reply.{Reply as CommandReply}
use Rattle.ks_engine.specs.declared.commands.Reply.TheVariants as reply
use Rattle.ks_engine.specs.declared.error.EngineError.{EngineError}
use Rattle.ks_engine.specs.declared.explaining.Explanation.{Explanation}
use Rattle.ks_engine.specs.declared.recording.Recorded.{Recorded as RecordAnswer}
use Rattle.ks_engine.specs.declared.staleness.BuildState.{BuildState}
use Rattle.ks_engine.specs.declared.staleness.Verdict.{Verdict}
use Rattle.ks_engine.specs.declared.synchronise.Report.{Report}

pub data Action : Type 0 where
  Sync : (kconfig dotconfig : List ℕ) → Action
  -- with a configuration of either form
  SyncFrom : Source → Action
  -- and the missing stamps of all declared symbols are made
  SyncAllStamps : (kconfig : KconfigText) (dotconfig : List ℕ) → Action
  Record : RecordOptions → (depfile target command : List ℕ) → Action
  -- and the dependency file becomes one rule
  Depfile : Header → RecordOptions → (depfile target command : List ℕ) → Action
  Stale : (target : List ℕ) → Action
  Why : (target : List ℕ) → Action
  -- whether it would be stale after a synchronisation
  Predicted : Source → (target : List ℕ) → Action
  Backdate : BackdateScope → (target : List ℕ) → Action
  Outdated : (target command : List ℕ) → Action
  -- what its command file says
  Read : (target : List ℕ) → Action

pub data Reply : Type 0 where
  Synced : Result Report EngineError → Reply
  Recorded : Result RecordAnswer EngineError → Reply
  Evaluated : Result Verdict EngineError → Reply
  -- and under which other spelling of its path the object is recorded
  Explained : Result Explanation EngineError → Option (List ℕ) → Reply
  Built : Result BuildState EngineError → Reply
  Found : Result (Option CommandRecord) EngineError → Reply

-- an action with its reply
pub record Call : Type 0 where
  pub action : Action
  pub reply : Reply

-- why it is refused, or given up, if it is
abbrev pub error_in : {A : Type 0} → Result A EngineError → Option EngineError
error_in (Ok x) = None
error_in (Err e) = Some e

abbrev pub error_of : Reply → Option EngineError
error_of (Synced r) = error_in r
error_of (Recorded r) = error_in r
error_of (Evaluated r) = error_in r
error_of (Explained r spelling) = error_in r
error_of (Built r) = error_in r
error_of (Found r) = error_in r

-- ---- those of the call `run`

-- the action of a command, without where its bytes lie
abbrev pub action : Command → Action
action (command.Sync kconfig dotconfig) = Sync kconfig.now dotconfig.now
action (command.Record depfile target args) = Record no_options depfile.now target.now args.now
action (command.Stale target) = Stale target.now

-- the reply to it
abbrev pub reply_to : Action → CommandReply → Reply
reply_to (Sync kconfig dotconfig) (reply.Refused e) = Synced (Err e)
reply_to (Record options depfile target command) (reply.Refused e) = Recorded (Err e)
reply_to action (reply.Refused e) = Evaluated (Err e)
reply_to action (reply.Synced report) = Synced (Ok report)
reply_to action (reply.Recorded answer) = Recorded (Ok answer)
reply_to action (reply.Verdict verdict) = Evaluated (Ok verdict)

abbrev pub call_of : Action → CommandReply → Call
call_of action reply = record { action = action; reply = reply_to action reply }

abbrev pub calls_of : List Action → List CommandReply → List Call
calls_of (action ∷ actions) (reply ∷ replies) = call_of action reply ∷ calls_of actions replies
calls_of _ _ = []
