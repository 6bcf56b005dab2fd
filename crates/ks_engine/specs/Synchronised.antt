-- What a synchronisation leaves: all of its plan, or a part of it where it was broken off.
use Rattle.std.specs.Prelude.{◌≡◌, ◌≢◌, ◌⊎◌, ℕ, ◌+◌, List, Some, None, Ok, Err, true, if◌then◌else◌, IsTrue, Result, OnOk, IsErrOf}
use Rattle.ks_engine.specs.Sources.{Source}
use Rattle.ks_symbols.specs.Names.{is_name, is_in, header_path}
use Rattle.ks_output.specs.AutoText.{auto_text}
use Rattle.ks_output.specs.Header.{header_text}
use Rattle.ks_compare.specs.Changes.{AreChanges}
use Rattle.ks_tree.specs.declared.tree.Tree.{Ghosts}
use Rattle.ks_tree.specs.Files.{Files, content}
use Rattle.ks_tree.specs.Frames.{Counted}
use Rattle.ks_tree.specs.Paths.{auto_path, auto_temporary, header_temporary, stamp_path, stamp_temporary}
use Rattle.ks_tree.specs.Stamps.{left_over, stamp_text}
use Rattle.ks_engine.specs.declared.error.EngineError.{EngineError}
use Rattle.ks_engine.specs.declared.error.EngineError.TheVariants.{Device, OutOfMemory}
use Rattle.ks_engine.specs.declared.synchronise.Report.{Report}
use Rattle.ks_engine.specs.Refusals.{IsAborted}
use Rattle.ks_symbols.specs.Configuration.{Configuration}
use Rattle.ks_output.specs.OldConfig.{Texts}
use Rattle.ks_engine.specs.SyncPlan.{Plan, IsSyncPlan}

-- the names that differ, which are legal
pub record AreLegalChanges (old : Texts) (new : Configuration) (names : List (List ℕ)) : Type 0 where
  pub are : AreChanges old new names
  pub legal : (x : List ℕ) → is_in names x ≡ true → IsTrue (is_name x)

-- Stamps of some changes are renewed. Where all are, the header may be the new one, and then auto.conf may be. All else but the temporary files is as before.
pub record SyncLeaves (old new : Files) (plan : Plan) (changed renewed : List (List ℕ)) : Type 0 where
  pub within : (x : List ℕ) → is_in renewed x ≡ true → is_in changed x ≡ true
  pub stamps : (x : List ℕ) → IsTrue (is_name x) → content new (stamp_path x)
      ≡ (if is_in renewed x then Some (stamp_text (plan.generation + 1)) else content old (stamp_path x))
  pub header : (content new header_path ≡ content old header_path)
      ⊎ ((renewed ≡ changed) × (content new header_path ≡ Some (header_text plan.title plan.config)))
  pub auto : (content new auto_path ≡ content old auto_path)
      ⊎ ((renewed ≡ changed) × (content new header_path ≡ Some (header_text plan.title plan.config))
      × (content new auto_path ≡ Some (auto_text plan.title plan.config (plan.generation + 1))))
  pub others : (q : List ℕ) → ((x : List ℕ) → is_in changed x ≡ true → q ≢ stamp_path x) → q ≢ header_path → q ≢ auto_path
      → q ≢ stamp_temporary → q ≢ header_temporary → q ≢ auto_temporary → content new q ≡ content old q

-- Nothing is left at the temporary paths; that of the stamps was written only where a name changed.
pub record AreCleared (old new : Files) (changed : List (List ℕ)) : Type 0 where
  pub stamps : content new stamp_temporary ≡ left_over changed (content old stamp_temporary)
  pub header : content new header_temporary ≡ None
  pub auto : content new auto_temporary ≡ None

-- All of it is done.
pub record SyncDone (old new : Files) (plan : Plan) (changed : List (List ℕ)) : Type 0 where
  pub leaves : SyncLeaves old new plan changed changed
  pub header : content new header_path ≡ Some (header_text plan.title plan.config)
  pub auto : content new auto_path ≡ Some (auto_text plan.title plan.config (plan.generation + 1))
  pub cleared : AreCleared old new changed

-- It was broken off in one of the states on the way.
abbrev pub SyncSome : Files → Files → Plan → List (List ℕ) → Type 0
SyncSome old new plan changed = (renewed : List (List ℕ)) × SyncLeaves old new plan changed renewed

-- It ran to its end, and this is its report.
pub record IsSynced (old new : Files) (source : Source) (report : Report) : Type 0 where
  pub plan : Plan
  pub planned : IsSyncPlan old source (Ok plan)
  pub generation : report.generation ≡ plan.generation + 1
  pub unknown : report.unknown ≡ plan.unknown
  pub changed : AreLegalChanges plan.old plan.config report.touched.items
  pub done : SyncDone old new plan report.touched.items

-- It reached its first write and was given up.
pub record IsBrokenOff (old new : Files) (source : Source) : Type 0 where
  pub plan : Plan
  pub planned : IsSyncPlan old source (Ok plan)
  pub names : List (List ℕ)
  pub changed : AreLegalChanges plan.old plan.config names
  pub some : SyncSome old new plan names

-- It was refused with nothing changed, or given up before its first write or after it.
abbrev pub IsSyncRefused : Files → Files → Source → EngineError → Type 0
IsSyncRefused old new source e =
    (IsSyncPlan old source (Err e) × (new ≡ old)) ⊎ (IsAborted e × ((new ≡ old) ⊎ IsBrokenOff old new source))

-- How a synchronisation is counted: the device is to blame only where the tree counted a failure, and where all went well, or
-- memory was wanting, none was. No file is made older.
pub record IsSyncCall {T : Type 0} (tree : Ghosts T) (old new : T) (answer : Result Report EngineError) : Type 0 where
  pub counted : Counted tree old new (IsErrOf answer Device)
  pub passed : OnOk answer (tree.failures new ≡ tree.failures old)
  pub uncounted : IsErrOf answer OutOfMemory → tree.failures new ≡ tree.failures old
  pub kept : tree.backdated new ≡ tree.backdated old
