-- Runs: actions with their replies, and the states between them.
use Rattle.std.specs.Prelude.{◌≡◌, ◌≤◌, List, [], ◌∷◌, Some, map}
use Rattle.std.specs.List.{All}
use Rattle.ks_symbols.specs.declared.dialect.Dialect.{Dialect}
use Rattle.ks_symbols.specs.Dialects.{read_in}
use Rattle.ks_engine.specs.Sources.{FromKconfig}
use Rattle.ks_tree.specs.Files.{HasRisen}
use Rattle.ks_engine.specs.declared.error.EngineError.TheVariants.{Device}
use Rattle.ks_engine.specs.Actions.{Action, Call, Reply, Sync, SyncFrom, SyncAllStamps, Record, Depfile, Synced, Recorded, error_of}
use Rattle.ks_engine.specs.Depfile.{FollowsDepfile, ruled_by}
use Rattle.ks_engine.specs.FileRuns.{LeavesFiles}
use Rattle.ks_engine.specs.History.{NoneBroken}
use Rattle.ks_engine.specs.Shows.{Shows}
use Rattle.ks_engine.specs.Follows.{TreeState, IsSame, FollowsSync, FollowsRecordUnder}
use Rattle.ks_engine.specs.Recorded.{usual_with}
use Rattle.ks_engine.specs.AllStamps.{FollowsSyncAllStamps}
use Rattle.ks_engine.specs.Verdicts.{IsEvaluatedReply, IsSuspectVerdict, IsChangedVerdict, IsSafeVerdict, IsAbortedSync}

abbrev pub IsShown : TreeState → Type 0
IsShown s = Shows s.files s.history

-- A question changes nothing, and is answered by the files; of a recorded object, as its history says.
pub record FollowsQuery (dialect : Dialect) (old : TreeState) (action : Action) (reply : Reply) (new : TreeState) : Type 0 where
  pub same : IsSame old new
  pub by_files : LeavesFiles dialect old.files action reply new.files
  pub recorded : IsEvaluatedReply old action reply

-- the state after an action, by its reply; sources and Kconfigs are read in such a dialect
abbrev pub Leaves : Dialect → TreeState → Action → Reply → TreeState → Type 0
Leaves dialect old (Sync kconfig dotconfig) (Synced r) new = FollowsSync (FromKconfig (read_in dialect kconfig) dotconfig) r old new
Leaves dialect old (SyncFrom source) (Synced r) new = FollowsSync source r old new
Leaves dialect old (SyncAllStamps kconfig dotconfig) (Synced r) new = FollowsSyncAllStamps kconfig dotconfig r old new
Leaves dialect old (Record options depfile target command) (Recorded r) new = FollowsRecordUnder (usual_with options dialect) depfile target command r old new
Leaves dialect old (Depfile header options depfile target command) (Recorded r) new = FollowsDepfile (ruled_by header options dialect) depfile target command r old new
Leaves dialect old action reply new = FollowsQuery dialect old action reply new

-- .. where the count of failures never fell, and the device is to blame only where it rose
pub record Follows (dialect : Dialect) (action : Action) (reply : Reply) (old new : TreeState) : Type 0 where
  pub leaves : Leaves dialect old action reply new
  pub later : old.failures ≤ new.failures
  pub cause : error_of reply ≡ Some Device → HasRisen old.failures new.failures

-- one action, with the states around it
pub record Step : Type 0 where
  pub before : TreeState
  pub action : Action
  pub reply : Reply
  pub after : TreeState

abbrev pub call_in : Step → Call
call_in step = record { action = step.action; reply = step.reply }

-- Each step begins where the one before it ended, and each state is shown.
abbrev pub Leads : Dialect → TreeState → List Step → TreeState → Type 0
Leads dialect first [] last = last ≡ first
Leads dialect first (step ∷ steps) last =
    (step.before ≡ first) × Follows dialect step.action step.reply step.before step.after × IsShown step.after × Leads dialect step.after steps last

-- A run of actions with their replies: the steps, and what holds of the verdicts among them.
pub record Run (dialect : Dialect) (first : TreeState) (calls : List Call) (last : TreeState) : Type 0 where
  pub steps : List Step
  pub called : map call_in steps ≡ calls
  pub begun : IsShown first
  pub leads : Leads dialect first steps last
  pub shown : IsShown last
  -- whatever was broken off
  pub suspect : All (λ step. IsSuspectVerdict step.before.history step.action step.reply) steps
  -- where no synchronisation was broken off
  pub changed : NoneBroken last.history → All (λ step. IsChangedVerdict step.before.history step.action step.reply) steps
  -- and of each that is fresh the header defines the names as at its record
  pub safe : All (λ step. IsSafeVerdict step.before step.action step.reply) steps
  -- and none was broken off where no synchronisation was given up
  pub unbroken : NoneBroken first.history → All (λ step. IsAbortedSync step.action step.reply → ⊥) steps → NoneBroken last.history
