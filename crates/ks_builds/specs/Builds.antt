-- What make may leave as it is after a synchronisation.
use Rattle.std.specs.Prelude.{◌≡◌, ◌<◌, ℕ, List, Some, Ok, true, false, ⊤}
use Rattle.ks_symbols.specs.Names.{is_in}
use Rattle.ks_tree.specs.Files.{Files, content}
use Rattle.ks_tree.specs.Paths.{command_path}
use Rattle.ks_fixdep.specs.CommandFile.{CommandRecord}
use Rattle.ks_fixdep.specs.CommandReading.{reading}
use Rattle.ks_engine.specs.declared.backdating.BackdateScope.{BackdateScope}
use Rattle.ks_engine.specs.declared.backdating.BackdateScope.TheVariants.{Unrecorded}
use Rattle.ks_engine.specs.declared.query.Limit.TheVariants.{First}
use Rattle.ks_engine.specs.declared.staleness.Verdict.TheVariants.{Fresh}
use Rattle.ks_engine.specs.Asked.{reported}
use Rattle.ks_engine.specs.FileRuns.{FileState}
use Rattle.ks_engine.specs.Asked.{IsAnswerOn}
use Rattle.ks_engine.specs.History.{History, LastRecord, last_record}
use Rattle.ks_engine.specs.Evaluated.{HasSameDefinitions}
use Rattle.ks_engine.specs.Shows.{Shows}
use Rattle.ks_requests.specs.declared.request.OutputFormat.TheVariants.{Text}
use Rattle.ks_requests.specs.declared.request.Targets.{Targets}
use Rattle.ks_requests.specs.declared.status.Outcome.{Outcome}
use Rattle.ks_requests.specs.Statuses.{code_of}
use Rattle.ks_requests.specs.Targets.{targets_at}
use Rattle.ks_commands.specs.Queries.{explaining, no_count, reports}
use Rattle.ks_commands.specs.Walks.{EndsWalk}

-- `age` ended so, on an honest tree.
abbrev pub HasBackdated : BackdateScope → FileState → Targets → Outcome → FileState → Type 0
HasBackdated which old targets outcome new =
    EndsWalk (explaining ⊤ old.files (Some which) Text First (λ o answer. IsAnswerOn old.files o (reported answer))) false (reports no_count) ⊤ old targets (Ok outcome) new

-- Each command file that has a number is one of a record of this history.
abbrev pub HasTrueRecords : Files → History → Type 0
HasTrueRecords files h =
    (o b : List ℕ) (file : CommandRecord) (g : ℕ) → content files (command_path o) ≡ Some b → reading b ≡ Ok file → file.generation ≡ Some g
    → (r : LastRecord) × (last_record h o ≡ Some r)

-- An object that is reported fresh has a record, and the header defines its names as then. So a make is right that compiles each object that isn't.
abbrev pub BuildsAreRight : Type 0
BuildsAreRight =
    (files : Files) (h : History) (o : List ℕ) → Shows files h → HasTrueRecords files h → IsAnswerOn files o (Ok Fresh)
    → (r : LastRecord) × (last_record h o ≡ Some r) × HasSameDefinitions files r

-- An object among those that `age` was asked about, which refused none, and left alone.
pub record IsLeft (which : BackdateScope) (old new : FileState) (o : List ℕ) : Type 0 where
  pub targets : Targets
  pub objects : List (List ℕ)
  pub listed : targets_at old.files targets ≡ Ok objects
  pub among : is_in objects o ≡ true
  pub outcome : Outcome
  pub asked : HasBackdated which old targets outcome new
  pub answered : code_of outcome.status < 2
  pub alone : is_in new.backdated o ≡ false

-- What `age --unrecorded` left alone is fresh.
abbrev pub WhatIsNotBackdatedIsFresh : Type 0
WhatIsNotBackdatedIsFresh = (old new : FileState) (o : List ℕ) → IsLeft Unrecorded old new o → IsAnswerOn old.files o (Ok Fresh)

-- Of a recorded object that `age` left alone the header defines the names as at that record.
abbrev pub WhatIsNotBackdatedIsSafe : Type 0
WhatIsNotBackdatedIsSafe =
    (which : BackdateScope) (old new : FileState) (h : History) (o : List ℕ) (r : LastRecord) → Shows old.files h → IsLeft which old new o → last_record h o ≡ Some r
    → HasSameDefinitions old.files r
