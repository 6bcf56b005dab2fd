-- Runs of the program, one after the other over the files of one tree.
use Rattle.std.specs.Prelude.{◌≡◌, ◌⊎◌, ◌≤◌, ℕ, List, Some, Result, Ok, IfOk, IsTrue, bytes_eq, filter, false, map, true, ⊤}
use Rattle.std.specs.List.{All}
use Rattle.ks_fixdep.specs.CommandFile.{is_command}
use Rattle.ks_symbols.specs.declared.dialect.Dialect.{Dialect}
use Rattle.ks_engine.specs.Sources.{Source}
use Rattle.ks_engine.specs.declared.commands.Reply.{Reply}
use Rattle.ks_engine.specs.declared.error.EngineError.{EngineError}
use Rattle.ks_tree.specs.Files.{Files}
use Rattle.ks_engine.specs.declared.explaining.Explanation.{Explanation}
use Rattle.ks_engine.specs.declared.staleness.BuildState.{BuildState}
use Rattle.ks_engine.specs.declared.staleness.BuildState.TheVariants.{CommandDiffers}
use Rattle.ks_engine.specs.declared.staleness.Verdict.{Verdict}
use Rattle.ks_engine.specs.declared.synchronise.Report.{Report}
use Rattle.ks_engine.specs.declared.staleness.Verdict.TheVariants.{Fresh}
use Rattle.ks_engine.specs.Actions.{Action, calls_of}
use Rattle.ks_engine.specs.BuildStates.{evaluated}
use Rattle.ks_engine.specs.Asked.{reported}
use Rattle.ks_engine.specs.Follows.{TreeState, at}
use Rattle.ks_engine.specs.History.{LastRecord, Synced, last_record}
use Rattle.ks_engine.specs.Evaluated.{HasSameDefinitions}
use Rattle.ks_engine.specs.Refusals.{IsAbortedAnswer}
use Rattle.ks_engine.specs.Runs.{Leads, Step, call_in}
use Rattle.ks_engine.specs.Staleness.{changed_since, first_changed, found, verdict}
use Rattle.ks_engine.specs.Synchronised.{IsSynced}
use Rattle.ks_engine.specs.Verdicts.{IsChangedVerdict, IsSafeVerdict}
use Rattle.ks_requests.specs.declared.request.Request.{Request}
use Rattle.ks_requests.specs.Endings.{Ending}
use Rattle.ks_commands.specs.Histories.{by_histories, state_of}
use Rattle.ks_commands.specs.Performed.{Effects, Ends}

pub record ProgramRun : Type 0 where
  pub dialect : Dialect
  pub before : TreeState
  pub request : Request
  pub ended : Ending
  pub after : TreeState

-- What is answered of a recorded object is the first of its names that changed since the record. Fresh, the header defines its names as then.
pub record ReportsChange (s : TreeState) (o : List ℕ) (answer : Result Verdict EngineError) : Type 0 where
  pub changed : (r : LastRecord) → last_record s.history o ≡ Some r → IsAbortedAnswer answer ⊎ (answer ≡ Ok (verdict (first_changed s.history o)))
  pub safe : (r : LastRecord) → last_record s.history o ≡ Some r → answer ≡ Ok Fresh → HasSameDefinitions s.files r

-- So does an explanation, and its causes are all names that changed.
pub record ReportsCauses (s : TreeState) (o : List ℕ) (answer : Result Explanation EngineError) : Type 0 where
  pub reports : ReportsChange s o (reported answer)
  pub causes : (r : LastRecord) → last_record s.history o ≡ Some r
      → IfOk answer (λ e. map (λ c. c.name) e.causes.items ≡ filter (changed_since s.history o) (found s.history o))

-- So does an answer after a synchronisation of two texts, of each state that this would leave.
abbrev pub ReportsAfter : TreeState → Source → List ℕ → Result Verdict EngineError → Type 0
ReportsAfter s source o answer = (after : Files) (report : Report) (synced : IsSynced s.files after source report)
    → ReportsChange (at after s.failures (Synced synced.plan.title synced.plan.config s.history)) o answer

-- So does an answer about a command that builds it: another one is reported exactly where that of the record is another one.
pub record ReportsBuild (s : TreeState) (o command : List ℕ) (answer : Result BuildState EngineError) : Type 0 where
  pub differs : (r : LastRecord) → last_record s.history o ≡ Some r → bytes_eq r.command command ≡ false → IsAbortedAnswer answer ⊎ (answer ≡ Ok CommandDiffers)
  pub same : (r : LastRecord) → last_record s.history o ≡ Some r → bytes_eq r.command command ≡ true
      → (verdict : Result Verdict EngineError) × (answer ≡ evaluated verdict) × ReportsChange s o verdict

-- The steps of a script's run, which lead from the state before it to the state after it; their verdicts do the same.
pub record StepsReportChanges (dialect : Dialect) (old new : TreeState) (actions : List Action) (replies : List Reply) : Type 0 where
  pub failures : ℕ
  pub later : old.failures ≤ failures
  pub steps : List Step
  pub called : map call_in steps ≡ calls_of actions replies
  pub leads : Leads dialect (at old.files failures old.history) steps new
  pub changed : All (λ step. IsChangedVerdict step.before.history step.action step.reply) steps
  pub safe : All (λ step. IsSafeVerdict step.before step.action step.reply) steps

-- What changes a tree does so as by its history; what is printed of recorded objects shows what changed.
abbrev pub changes_reported : Dialect → TreeState → TreeState → Effects
changes_reported dialect old new = record (by_histories dialect old new) {
  stale = ReportsChange old;
  why = ReportsCauses old;
  impact = ReportsAfter old;
  outdated = λ o command answer. IsTrue (is_command command) → ReportsBuild old o command answer;
  run = StepsReportChanges dialect old new;
}

-- All that a run of the program prints of recorded objects tells what changed.
abbrev pub ProgramReportsChanges : ProgramRun → Type 0
ProgramReportsChanges run =
    (a b : List (List ℕ)) × Ends ⊤ (changes_reported run.dialect run.before run.after) (state_of run.before a) run.request run.ended (state_of run.after b)
