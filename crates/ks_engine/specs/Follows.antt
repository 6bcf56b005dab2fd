-- What each call does to the files of a tree and to its history.
use Rattle.std.specs.Prelude.{◌≡◌, ◌⊎◌, ℕ, ◌<◌, false, List, Some, Result, Ok, Err}
use Rattle.ks_engine.specs.Sources.{Source}
use Rattle.ks_symbols.specs.Names.{header_path}
use Rattle.ks_symbols.specs.declared.dialect.Dialect.{Dialect}
use Rattle.ks_tree.specs.declared.tree.Tree.{Ghosts}
use Rattle.ks_tree.specs.Files.{Files, content}
use Rattle.ks_engine.specs.declared.conventions.Conventions.{Conventions}
use Rattle.ks_engine.specs.declared.error.EngineError.{EngineError}
use Rattle.ks_engine.specs.declared.recording.Recorded.{Recorded as RecordAnswer}
use Rattle.ks_engine.specs.declared.synchronise.Report.{Report}
use Rattle.ks_engine.specs.Refusals.{IsAborted}
use Rattle.ks_engine.specs.History.{History, Synced, Broken, Recorded, before, done, WasSynced}
use Rattle.ks_engine.specs.Shows.{Shows}
use Rattle.ks_engine.specs.Recorded.{record_plan_under, usual, IsRecordedUnder, IsRecordTriedUnder}
use Rattle.ks_engine.specs.Synchronised.{AreLegalChanges, IsSynced, IsBrokenOff}
use Rattle.ks_engine.specs.SyncPlan.{Plan, IsSyncPlan}

-- the files of a tree, how often its device has failed, and what was done to it
pub record TreeState : Type 0 where
  pub files : Files
  pub failures : ℕ
  pub history : History

abbrev pub at : Files → ℕ → History → TreeState
at files failures history = record { files = files; failures = failures; history = history }

-- From each history that the files of an honest tree show there is a next one by this relation, and the files then show it.
abbrev pub GoesOn : {T : Type 0} → Ghosts T → T → T → (TreeState → TreeState → Type 0) → Type 0
GoesOn tree old new follows =
    tree.is_honest → (h : History) → Shows (tree.files old) h → (next : History)
    × follows (at (tree.files old) (tree.failures old) h) (at (tree.files new) (tree.failures new) next) × Shows (tree.files new) next

-- neither the files nor the history have changed
abbrev pub IsSame : TreeState → TreeState → Type 0
IsSame old new = (new.files ≡ old.files) × (new.history ≡ old.history)

-- ---- synchronising

-- A completed synchronisation is the newest event, and reports what changed since the one before it.
pub record FollowsSynced (old : TreeState) (source : Source) (report : Report) (new : TreeState) : Type 0 where
  pub files : IsSynced old.files new.files source report
  pub history : new.history ≡ Synced files.plan.title files.plan.config old.history
  pub generation : report.generation ≡ done new.history
  pub changed : AreLegalChanges (before old.history) files.plan.config report.touched.items

-- One that was given up after its first write is a broken one with the stamps that it renewed, or a completed one.
abbrev pub IsBrokenEvent : History → Plan → List (List ℕ) → History → Type 0
IsBrokenEvent past plan renewed next = (next ≡ Broken plan.title plan.config renewed past) ⊎ (next ≡ Synced plan.title plan.config past)

abbrev pub FollowsSync : Source → Result Report EngineError → TreeState → TreeState → Type 0
FollowsSync source (Ok report) old new = FollowsSynced old source report new
FollowsSync source (Err e) old new =
    (IsSyncPlan old.files source (Err e) × IsSame old new)
    ⊎ (IsAborted e × (IsSame old new ⊎ ((broken : IsBrokenOff old.files new.files source)
    × IsBrokenEvent old.history broken.plan broken.some.0 new.history)))

-- ---- recording

-- The object, its command and its names are the newest event, with the header as it stood.
abbrev pub IsRecordEvent : TreeState → List ℕ → List ℕ → List (List ℕ) → History → Type 0
IsRecordEvent old target command names next =
    (header : List ℕ) × (content old.files header_path ≡ Some header) × (next ≡ Recorded target command names header old.history)

-- It is recorded under the last generation, or under 0 where a build asks for that before there is any. Before the first synchronisation of
-- its history it is not claimed: no event is added.
pub record FollowsRecordedUnder (conventions : Conventions) (old : TreeState) (depfile target command : List ℕ) (answer : RecordAnswer) (new : TreeState) : Type 0 where
  pub files : IsRecordedUnder conventions old.files new.files depfile target command answer
  pub generation : answer.generation ≡ done old.history
  pub some : conventions.options.before_sync ≡ false → 0 < done old.history
  pub history : (WasSynced old.history × IsRecordEvent old target command files.plan.names new.history)
      ⊎ ((WasSynced old.history → ⊥) × (new.history ≡ old.history))

-- One that was given up at the write has left the old command file, or is recorded.
abbrev pub FollowsRecordUnder : Conventions → List ℕ → List ℕ → List ℕ → Result RecordAnswer EngineError → TreeState → TreeState → Type 0
FollowsRecordUnder conventions depfile target command (Ok answer) old new = FollowsRecordedUnder conventions old depfile target command answer new
FollowsRecordUnder conventions depfile target command (Err e) old new =
    ((record_plan_under conventions old.files depfile target command ≡ Err e) × IsSame old new)
    ⊎ (IsAborted e × (IsSame old new ⊎ ((tried : IsRecordTriedUnder conventions old.files new.files depfile target command)
    × ((new.history ≡ old.history) ⊎ IsRecordEvent old target command tried.plan.names new.history))))

abbrev pub FollowsRecord : Dialect → List ℕ → List ℕ → List ℕ → Result RecordAnswer EngineError → TreeState → TreeState → Type 0
FollowsRecord dialect depfile target command result old new = FollowsRecordUnder (usual dialect) depfile target command result old new
