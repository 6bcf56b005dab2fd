-- What a synchronisation leaves that makes the missing stamp of each declared symbol too.
use Rattle.std.specs.Prelude.{◌≡◌, ◌⊎◌, ℕ, List, Result, Ok, Err, is_some, true}
use Rattle.ks_symbols.specs.Dialects.{KconfigText}
use Rattle.ks_engine.specs.Sources.{FromKconfig}
use Rattle.ks_symbols.specs.Kconfig.{declared}
use Rattle.ks_symbols.specs.Names.{is_in}
use Rattle.ks_tree.specs.Files.{Files}
use Rattle.ks_tree.specs.Stamps.{MakesStamps}
use Rattle.ks_engine.specs.declared.error.EngineError.{EngineError}
use Rattle.ks_engine.specs.declared.synchronise.Report.{Report}
use Rattle.ks_engine.specs.Refusals.{IsAborted}
use Rattle.ks_engine.specs.Synchronised.{IsSynced, IsSyncRefused}
use Rattle.ks_engine.specs.Follows.{TreeState, FollowsSync, FollowsSynced}

-- The names are those that a Kconfig declares, ..
abbrev pub AreDeclared : KconfigText → List (List ℕ) → Type 0
AreDeclared kconfig names = (x : List ℕ) → is_in names x ≡ is_some (declared kconfig x)

-- .. or some of them.
abbrev pub AreSomeDeclared : KconfigText → List (List ℕ) → Type 0
AreSomeDeclared kconfig names = (x : List ℕ) → is_in names x ≡ true → is_some (declared kconfig x) ≡ true

-- ---- by the files

-- It was synchronised, and then the missing stamps of all declared symbols were made.
pub record IsStamped (old new : Files) (kconfig : KconfigText) (dotconfig : List ℕ) (report : Report) : Type 0 where
  pub between : Files
  pub synced : IsSynced old between (FromKconfig kconfig dotconfig) report
  pub names : List (List ℕ)
  pub declared : AreDeclared kconfig names
  pub stamps : MakesStamps names between new

-- It was synchronised, and given up at the stamps after that.
pub record IsPartlyStamped (old new : Files) (kconfig : KconfigText) (dotconfig : List ℕ) : Type 0 where
  pub report : Report
  pub between : Files
  pub synced : IsSynced old between (FromKconfig kconfig dotconfig) report
  pub names : List (List ℕ)
  pub declared : AreSomeDeclared kconfig names
  pub stamps : MakesStamps names between new

-- It was refused or given up as a synchronisation is, or after one that was done.
abbrev pub IsStampedRefused : Files → Files → KconfigText → List ℕ → EngineError → Type 0
IsStampedRefused old new kconfig dotconfig e =
    IsSyncRefused old new (FromKconfig kconfig dotconfig) e ⊎ (IsAborted e × IsPartlyStamped old new kconfig dotconfig)

-- ---- by histories: the synchronisation is the event, and nothing after it is one

pub record FollowsStamped (old : TreeState) (kconfig : KconfigText) (dotconfig : List ℕ) (report : Report) (new : TreeState) : Type 0 where
  pub between : TreeState
  pub synced : FollowsSynced old (FromKconfig kconfig dotconfig) report between
  pub history : new.history ≡ between.history
  pub names : List (List ℕ)
  pub declared : AreDeclared kconfig names
  pub stamps : MakesStamps names between.files new.files

pub record FollowsPartlyStamped (old : TreeState) (kconfig : KconfigText) (dotconfig : List ℕ) (new : TreeState) : Type 0 where
  pub report : Report
  pub between : TreeState
  pub synced : FollowsSynced old (FromKconfig kconfig dotconfig) report between
  pub history : new.history ≡ between.history
  pub names : List (List ℕ)
  pub declared : AreSomeDeclared kconfig names
  pub stamps : MakesStamps names between.files new.files

abbrev pub FollowsSyncAllStamps : KconfigText → List ℕ → Result Report EngineError → TreeState → TreeState → Type 0
FollowsSyncAllStamps kconfig dotconfig (Ok report) old new = FollowsStamped old kconfig dotconfig report new
FollowsSyncAllStamps kconfig dotconfig (Err e) old new =
    FollowsSync (FromKconfig kconfig dotconfig) (Err e) old new ⊎ (IsAborted e × FollowsPartlyStamped old kconfig dotconfig new)
