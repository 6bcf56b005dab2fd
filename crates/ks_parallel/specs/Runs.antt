-- Runs of `record` and of `depfile` by several processes, in any order of their calls: what each of them alone is promised to leave, all of them leave.
use Rattle.std.specs.Prelude.{◌≡◌, ◌⊎◌, ℕ, ◌+◌, ◌<◌, ◌≤◌, List, [], ◌∷◌, Bool, true, Some, Result, Ok, Err, length, get_or, IsTrue}
use Rattle.ks_symbols.specs.Names.{is_in, is_name, header_path}
use Rattle.ks_tree.specs.Files.{Files, content}
use Rattle.ks_engine.specs.declared.conventions.Conventions.{Conventions}
use Rattle.ks_engine.specs.declared.error.EngineError.{EngineError}
use Rattle.ks_engine.specs.declared.recording.Recorded.{Recorded}
use Rattle.ks_engine.specs.FileRuns.{LeavesDepfile, LeavesRecord}
use Rattle.ks_engine.specs.History.{History, WasSynced}
use Rattle.ks_engine.specs.Refusals.{IsAborted}
use Rattle.ks_engine.specs.Shows.{Shows}
use Rattle.ks_parallel.specs.Calls.{view}
use Rattle.ks_parallel.specs.Orders.{own, all, IsOrderOf}
use Rattle.ks_parallel.specs.Views.{Jobs, AreApart, SeesPlaces}
use Rattle.ks_parallel.specs.Shuffles.{RecordEvent, with_records}
use Rattle.ks_parallel.specs.Stamping.{Act, AllActsFind, MakeStampsApart, after_acts}

-- which of the two commands is run, and how it reads the sources
pub data Way : Type 0 where
  Recording : (conventions : Conventions) → Way
  Ruling : (conventions : Conventions) → Way

-- one process: its command with its arguments, and what it answered
pub record Process : Type 0 where
  pub way : Way
  pub depfile : List ℕ
  pub target : List ℕ
  pub command : List ℕ
  pub answer : Result Recorded EngineError

-- what its command is promised to leave of some files by its answer: done, refused or given up
abbrev pub LeavesBy : Way → Files → Files → List ℕ → List ℕ → List ℕ → Result Recorded EngineError → Type 0
LeavesBy (Recording conventions) old new d t c answer = LeavesRecord conventions old new d t c answer
LeavesBy (Ruling conventions) old new d t c answer = LeavesDepfile conventions old new d t c answer

abbrev pub LeavesRun : Files → Files → Process → Type 0
LeavesRun old new r = LeavesBy r.way old new r.depfile r.target r.command r.answer

abbrev pub targets_from : ℕ → List Process → Jobs
targets_from n [] = []
targets_from n (r ∷ rs) = (n, r.target) ∷ targets_from (n + 1) rs

abbrev pub targets_of : List Process → Jobs
targets_of rs = targets_from 0 rs

-- Processes that keep apart, each of which does alone, over what it sees, what its command is promised to do.
pub record RunsApart (rs : List Process) (seen : ℕ → List ℕ → Bool) (names : List (List ℕ)) (files : Files) (acts : List (ℕ × Act)) : Type 0 where
  pub targets : AreApart (targets_of rs)
  pub places : SeesPlaces (targets_of rs) seen
  pub legal : (x : List ℕ) → is_in names x ≡ true → IsTrue (is_name x)
  pub apart : MakeStampsApart seen names acts
  pub finds : AllActsFind files (all acts)
  pub alone : (i : ℕ) (d : Process) → i < length rs → LeavesRun (view (seen i) files) (after_acts (view (seen i) files) (own i acts)) (get_or rs i d)
  pub beyond : (i : ℕ) → length rs ≤ i → own i acts ≡ []

-- ---- what that means for the history of the tree

-- The record of this object by this command, with the header as it stands.
pub record IsRecordOf (files : Files) (o c : List ℕ) (e : RecordEvent) : Type 0 where
  pub object : e.object ≡ o
  pub command : e.command ≡ c
  pub header : content files header_path ≡ Some e.header

-- What an answer adds to a history: a record that is done, unless the history has no synchronisation yet, and perhaps one that was given up.
abbrev pub AddsBy : Files → History → List ℕ → List ℕ → Result Recorded EngineError → List RecordEvent → Type 0
AddsBy files h o c (Ok answer) es =
    (WasSynced h × ((e : RecordEvent) × (es ≡ e ∷ []) × IsRecordOf files o c e × (answer.names ≡ length e.names))) ⊎ ((WasSynced h → ⊥) × (es ≡ []))
AddsBy files h o c (Err fault) es = (es ≡ []) ⊎ (IsAborted fault × ((e : RecordEvent) × (es ≡ e ∷ []) × IsRecordOf files o c e))

-- There are records of the processes such that the files show every shuffle of them after the history.
pub record RunsAreShown (rs : List Process) (old new : Files) (h : History) : Type 0 where
  pub records : ℕ → List RecordEvent
  pub added : (i : ℕ) (d : Process) → i < length rs → AddsBy old h (get_or rs i d).target (get_or rs i d).command (get_or rs i d).answer (records i)
  pub none : (i : ℕ) → length rs ≤ i → records i ≡ []
  pub shown : (shuffle : List (ℕ × RecordEvent)) → IsOrderOf records shuffle → Shows new (with_records h (all shuffle))

-- So it is from each history that the files showed.
abbrev pub RunsSideBySide : Type 0
RunsSideBySide =
    (rs : List Process) (seen : ℕ → List ℕ → Bool) (names : List (List ℕ)) (files : Files) (acts : List (ℕ × Act)) (h : History)
    → RunsApart rs seen names files acts → Shows files h → RunsAreShown rs files (after_acts files (all acts)) h
