-- Laws of the definitions: how histories go on with a request, what a preview has written, what a refusal leaves, the statuses, when names differ,
-- what scripts tell, and what `age` is for.
use Rattle.std.specs.Prelude.{◌≡◌, ◌⊎◌, ◌<◌, ◌≤◌, ◌↔◌, ℕ, List, Option, Some, Err, IfOk, Ok, false, true, ⊤}
use Rattle.ks_streams.specs.Streams.{State}
use Rattle.ks_symbols.specs.declared.dialect.Dialect.{Dialect}
use Rattle.ks_tree.specs.Files.{Files}
use Rattle.ks_engine.specs.FileRuns.{FileState}
use Rattle.ks_engine.specs.Asked.{IsAnswerOn, reported}
use Rattle.ks_engine.specs.Follows.{TreeState, at}
use Rattle.ks_engine.specs.declared.backdating.BackdateScope.{BackdateScope}
use Rattle.ks_engine.specs.declared.query.Limit.TheVariants.{First}
use Rattle.ks_engine.specs.History.{History, NoneBroken}
use Rattle.ks_engine.specs.Shows.{Shows}
use Rattle.ks_engine.specs.Staleness.{changed_since, suspect_since}
use Rattle.ks_symbols.specs.Names.{is_in}
use Rattle.ks_requests.specs.declared.refusal.Refusal.{Refusal}
use Rattle.ks_requests.specs.declared.request.Request.{Request}
use Rattle.ks_requests.specs.declared.request.OutputFormat.TheVariants.{Text}
use Rattle.ks_requests.specs.declared.request.Targets.{Targets}
use Rattle.ks_requests.specs.declared.status.Outcome.{Outcome}
use Rattle.ks_requests.specs.declared.status.Status.TheVariants.{Done}
use Rattle.ks_requests.specs.Endings.{Ending, Printed}
use Rattle.ks_engine.specs.declared.planning.ConfigForm.{ConfigForm}
use Rattle.ks_requests.specs.Outputs.{WritesPreview}
use Rattle.ks_requests.specs.Requests.{IsPreviewOf}
use Rattle.ks_requests.specs.Statuses.{code_of}
use Rattle.ks_requests.specs.Targets.{targets_at}
use Rattle.ks_commands.specs.Histories.{Continues, IsFollowed, by_histories}
use Rattle.ks_commands.specs.Performed.{Ends, EndsBatch, by_files}
use Rattle.ks_commands.specs.Queries.{explaining, no_count, reports}
use Rattle.ks_commands.specs.Walks.{EndsWalk}
use Rattle.ks_symbols.specs.Configuration.{Configuration}
use Rattle.ks_output.specs.OldConfig.{Texts}
use Rattle.ks_compare.specs.Changes.{differs}
use Rattle.ks_requests.specs.declared.report_style.ReportStyle.{ReportStyle}
use Rattle.ks_commands.specs.Differences.{ReportsChanges, asks_status}
use Rattle.ks_commands.specs.Programs.{changes_reported}
use Rattle.ks_commands.specs.Scripts.{IsAbortedRefusal}

-- A request that ended so by the files of an honest tree goes on with each history that the first of them show: there is a next one, which the last of
-- them show.
abbrev pub RequestsGoOn : Type 0
RequestsGoOn =
    (dialect : Dialect) (request : Request) (ended : Ending) (old new : FileState) (h : History) → IsFollowed request → Shows old.files h
    → Ends ⊤ (by_files dialect ⊤ old new) old request ended new → (next : History)
    × Continues dialect request ended (at old.files old.failures h) (at new.files new.failures next) × Shows new.files next

-- A preview is done or refused, leaves the files as they are, and once done it has printed what is said of these arguments, to whoever reads it.
pub record IsPreviewed (dialect : Dialect) (form : ConfigForm) (k d : List ℕ) (o : Option (List ℕ)) (old new : Files) (before after : State) (status : ℕ) : Type 0 where
  pub answered : (status ≡ 0) ⊎ (status ≡ 2)
  pub written : status ≡ 0 → after.is_unread ≡ false → WritesPreview dialect form old k d o before.bytes after.bytes
  pub unchanged : new ≡ old

abbrev pub PreviewsArePerformed : Type 0
PreviewsArePerformed =
    (dialect : Dialect) (form : ConfigForm) (k d : List ℕ) (o : Option (List ℕ)) (request : Request) (ended : Ending) (following : List ℕ) (old new : FileState)
    (before after err_before err_after : State) (status : ℕ)
    → IsPreviewOf form k d o request → Ends ⊤ (by_files dialect ⊤ old new) old request ended new → Printed following ended before after err_before err_after status
    → IsPreviewed dialect form k d o old.files new.files before after status

-- A refusal of the whole command leaves the files as before, but for want of memory and a failure of the device.
abbrev pub RefusalsChangeNothing : Type 0
RefusalsChangeNothing = (dialect : Dialect) (request : Request) (refusal : Refusal) (old new : FileState)
    → (IsAbortedRefusal refusal → ⊥) → Ends ⊤ (by_files dialect ⊤ old new) old request (Err refusal) new → new.files ≡ old.files

-- The status is at most 2, and 0 or 2 of what is done or refused.
pub record IsStatusOf (ended : Ending) (status : ℕ) : Type 0 where
  pub at_most : status ≤ 2
  pub done : IfOk ended (λ o. o.status ≡ Done) → (status ≡ 0) ⊎ (status ≡ 2)

abbrev pub StatusesAreAtMostTwo : Type 0
StatusesAreAtMostTwo = (ended : Ending) (following : List ℕ) (before after err_before err_after : State) (status : ℕ)
    → Printed following ended before after err_before err_after status → IsStatusOf ended status

-- Where `diff` is asked for its status, that is 1 exactly if some name differs.
abbrev pub StatusesReportDifferences : Type 0
StatusesReportDifferences = (report_style : ReportStyle) (old : Texts) (new : Configuration) (text : List ℕ) (status : ℕ)
    → asks_status report_style ≡ true → ReportsChanges report_style old new text status → (status ≡ 1) ↔ ((x : List ℕ) × (differs old new x ≡ true))

-- A script that runs without a refusal, after a history without a broken synchronisation, tells what changed.
abbrev pub BatchReportsChanges : Type 0
BatchReportsChanges = (dialect : Dialect) (path : List ℕ) (o : Outcome) (old new : TreeState) → code_of o.status < 2 → NoneBroken old.history
    → EndsBatch ⊤ (by_histories dialect old new) old.files path (Ok o) → EndsBatch ⊤ (changes_reported dialect old new) old.files path (Ok o)

-- A name that was found at an object's last record was touched since, by a synchronisation that was completed or by one that was broken off.
abbrev pub WasTouched : History → List ℕ → List ℕ → Type 0
WasTouched h o x = (changed_since h o x ≡ true) ⊎ (suspect_since h o x ≡ true)

-- What `age` is for: where it refused nothing, each of its objects of which a name was touched since the record is among the aged, by each history that
-- the files show.
abbrev pub WhatChangedIsBackdated : Type 0
WhatChangedIsBackdated =
    (which : BackdateScope) (old new : FileState) (h : History) (targets : Targets) (outcome : Outcome) (objects : List (List ℕ)) (o x : List ℕ)
    → Shows old.files h → code_of outcome.status < 2
    → EndsWalk (explaining ⊤ old.files (Some which) Text First (λ o answer. IsAnswerOn old.files o (reported answer))) false (reports no_count) ⊤ old targets (Ok outcome) new
    → targets_at old.files targets ≡ Ok objects → is_in objects o ≡ true → WasTouched h o x → is_in new.backdated o ≡ true
