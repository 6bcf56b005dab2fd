-- What is aged once an object was asked for: it alone, and that only where it is stale.
use Rattle.std.specs.Prelude.{◌≡◌, ◌⊎◌, ℕ, Bool, true, false, List, [], ◌∷◌, ◌++◌, Result, Ok, Err, if◌then◌else◌}
use Rattle.ks_tree.specs.Files.{Files}
use Rattle.ks_engine.specs.declared.backdating.BackdateScope.{BackdateScope}
use Rattle.ks_engine.specs.declared.backdating.BackdateScope.TheVariants.{Recorded, Unrecorded}
use Rattle.ks_engine.specs.declared.error.EngineError.{EngineError}
use Rattle.ks_engine.specs.declared.error.EngineError.TheVariants.{Device}
use Rattle.ks_engine.specs.declared.staleness.Verdict.{Verdict}
use Rattle.ks_engine.specs.declared.staleness.Verdict.TheVariants.{Fresh, Changed, NoCommandFile, Unnumbered, Ahead}
use Rattle.ks_engine.specs.Asked.{asked, IsAnswer}

-- whether an object without a record, or whose record has no number, is aged
abbrev pub backdates_unrecorded : BackdateScope → Bool
backdates_unrecorded Recorded = false
backdates_unrecorded Unrecorded = true

-- whether an object of this verdict is aged
abbrev pub backdates : BackdateScope → Verdict → Bool
backdates which Fresh = false
backdates which (Changed x) = true
backdates which Ahead = true
backdates which NoCommandFile = backdates_unrecorded which
backdates which Unnumbered = backdates_unrecorded which

-- the paths that are aged after this verdict
abbrev pub backdated_by : BackdateScope → List ℕ → Verdict → List (List ℕ)
backdated_by which o v = if backdates which v then o ∷ [] else []

-- It was aged, and the device failed then: by the files it is stale.
pub record IsBackdatedAll (which : BackdateScope) (files : Files) (o : List ℕ) (old new : List (List ℕ)) : Type 0 where
  pub verdict : Verdict
  pub stale : backdates which verdict ≡ true
  pub answer : IsAnswer files (asked files o) (Ok verdict)
  pub backdated : new ≡ old ++ o ∷ []

-- What was aged before and after, by the answer. A refusal ages nothing, except that a device may fail once it has aged.
abbrev pub IsBackdated : BackdateScope → Files → List ℕ → List (List ℕ) → Result Verdict EngineError → List (List ℕ) → Type 0
IsBackdated which files o old (Ok v) new = new ≡ old ++ backdated_by which o v
IsBackdated which files o old (Err Device) new = (new ≡ old) ⊎ IsBackdatedAll which files o old new
IsBackdated which files o old (Err e) new = new ≡ old
