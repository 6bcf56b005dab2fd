-- Runs by the files of a tree: what each action leaves and is answered, and what the tree has counted, one action after the other.
use Rattle.std.specs.Prelude.{◌≡◌, ◌≤◌, ℕ, List, [], ◌∷◌, Some, Result, Ok, Err, ⊤}
use Rattle.ks_symbols.specs.declared.dialect.Dialect.{Dialect}
use Rattle.ks_symbols.specs.Dialects.{KconfigText, read_in}
use Rattle.ks_engine.specs.Sources.{Source, FromKconfig}
use Rattle.ks_tree.specs.declared.tree.Tree.{Ghosts}
use Rattle.ks_tree.specs.Files.{Files, HasRisen}
use Rattle.ks_engine.specs.declared.conventions.Conventions.{Conventions}
use Rattle.ks_engine.specs.declared.error.EngineError.{EngineError}
use Rattle.ks_engine.specs.declared.error.EngineError.TheVariants.{Device, OutOfMemory}
use Rattle.ks_engine.specs.declared.recording.Recorded.{Recorded as RecordAnswer}
use Rattle.ks_engine.specs.declared.synchronise.Report.{Report}
use Rattle.ks_engine.specs.Actions.{Action, Call, Reply, error_of}
use Rattle.ks_engine.specs.Actions as asked
use Rattle.ks_engine.specs.Backdated.{IsBackdated}
use Rattle.ks_engine.specs.Asked.{IsAnswerOn, reported}
use Rattle.ks_engine.specs.BuildStates.{IsStateOn}
use Rattle.ks_engine.specs.Costs.{IsRead}
use Rattle.ks_engine.specs.Depfile.{IsDepfileRecorded, IsDepfileRefused, ruled_by}
use Rattle.ks_engine.specs.Explained.{IsExplanationOn}
use Rattle.ks_engine.specs.Impact.{IsAnswerAfter}
use Rattle.ks_engine.specs.Recorded.{IsRecordedUnder, IsRecordRefusedUnder, usual_with}
use Rattle.ks_engine.specs.Spelling.{spelling_of}
use Rattle.ks_engine.specs.AllStamps.{IsStamped, IsStampedRefused}
use Rattle.ks_engine.specs.Synchronised.{IsSynced, IsSyncRefused}

-- ---- what an action leaves and is answered

abbrev pub LeavesSync : Files → Files → Source → Result Report EngineError → Type 0
LeavesSync old new source (Ok report) = IsSynced old new source report
LeavesSync old new source (Err e) = IsSyncRefused old new source e

abbrev pub LeavesStamped : Files → Files → KconfigText → List ℕ → Result Report EngineError → Type 0
LeavesStamped old new k d (Ok report) = IsStamped old new k d report
LeavesStamped old new k d (Err e) = IsStampedRefused old new k d e

abbrev pub LeavesRecord : Conventions → Files → Files → List ℕ → List ℕ → List ℕ → Result RecordAnswer EngineError → Type 0
LeavesRecord conventions old new d t c (Ok answer) = IsRecordedUnder conventions old new d t c answer
LeavesRecord conventions old new d t c (Err e) = IsRecordRefusedUnder conventions old new d t c e

abbrev pub LeavesDepfile : Conventions → Files → Files → List ℕ → List ℕ → List ℕ → Result RecordAnswer EngineError → Type 0
LeavesDepfile conventions old new d t c (Ok answer) = IsDepfileRecorded conventions old new d t c answer
LeavesDepfile conventions old new d t c (Err e) = IsDepfileRefused conventions old new d t c e

-- The files after each action, by its reply: a question leaves them as they are. No action is answered as another one.
abbrev pub LeavesFiles : Dialect → Files → Action → Reply → Files → Type 0
LeavesFiles dialect old (asked.Sync k d) (asked.Synced r) new = LeavesSync old new (FromKconfig (read_in dialect k) d) r
LeavesFiles dialect old (asked.SyncFrom source) (asked.Synced r) new = LeavesSync old new source r
LeavesFiles dialect old (asked.SyncAllStamps k d) (asked.Synced r) new = LeavesStamped old new k d r
LeavesFiles dialect old (asked.Record options d t c) (asked.Recorded r) new = LeavesRecord (usual_with options dialect) old new d t c r
LeavesFiles dialect old (asked.Depfile header options d t c) (asked.Recorded r) new = LeavesDepfile (ruled_by header options dialect) old new d t c r
LeavesFiles dialect old (asked.Stale o) (asked.Evaluated r) new = (new ≡ old) × IsAnswerOn old o r
LeavesFiles dialect old (asked.Stale o) (asked.Explained r spelling) new = (new ≡ old) × IsAnswerOn old o (reported r)
LeavesFiles dialect old (asked.Why o) (asked.Explained r spelling) new = (new ≡ old) × IsExplanationOn old o r × (spelling ≡ spelling_of old o r)
LeavesFiles dialect old (asked.Predicted source o) (asked.Explained r spelling) new = (new ≡ old) × IsAnswerAfter old source o (reported r)
LeavesFiles dialect old (asked.Backdate which o) (asked.Explained r spelling) new = (new ≡ old) × IsAnswerOn old o (reported r)
LeavesFiles dialect old (asked.Outdated o c) (asked.Built r) new = (new ≡ old) × IsStateOn old o c r
LeavesFiles dialect old (asked.Read o) (asked.Found r) new = (new ≡ old) × IsRead old o r
LeavesFiles dialect old action reply new = ⊥

-- ---- one action after the other

-- the files of a tree, how often its device has failed, and which files it has aged
pub record FileState : Type 0 where
  pub files : Files
  pub failures : ℕ
  pub backdated : List (List ℕ)

abbrev pub state : {T : Type 0} → Ghosts T → T → FileState
state tree t = record { files = tree.files t; failures = tree.failures t; backdated = tree.backdated t }

-- what is aged after an action: on an honest tree what `age` ages, and nothing more for any other
abbrev pub BackdateScope : Type 0 → FileState → Action → Reply → List (List ℕ) → Type 0
BackdateScope honest old (asked.Backdate which o) (asked.Explained r spelling) backdated = honest → IsBackdated which old.files o old.backdated (reported r) backdated
BackdateScope honest old action reply backdated = backdated ≡ old.backdated

-- It asks once: `why` looks for another spelling once it has its answer.
abbrev pub AsksOnce : Action → Type 0
AsksOnce (asked.Why o) = ⊥
AsksOnce action = ⊤

-- A step of an honest tree leaves these files. Of any tree the count of failures never falls; the device is to blame only where it rose, and want
-- of memory only where it didn't.
pub record StepsTo (dialect : Dialect) (honest : Type 0) (old : FileState) (action : Action) (reply : Reply) (new : FileState) : Type 0 where
  pub leaves : honest → LeavesFiles dialect old.files action reply new.files
  pub backdates : BackdateScope honest old action reply new.backdated
  pub later : old.failures ≤ new.failures
  pub cause : error_of reply ≡ Some Device → HasRisen old.failures new.failures
  pub uncounted : AsksOnce action → error_of reply ≡ Some OutOfMemory → new.failures ≡ old.failures

-- Each step begins where the one before it ended.
abbrev pub FileRun : Dialect → Type 0 → FileState → List Call → FileState → Type 0
FileRun dialect honest first [] last = last ≡ first
FileRun dialect honest first (call ∷ calls) last =
    (next : FileState) × StepsTo dialect honest first call.action call.reply next × FileRun dialect honest next calls last
