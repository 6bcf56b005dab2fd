-- The status that answers come to: 2 where one is refused, else 1 where something is stale, else 0.
use Rattle.std.specs.Prelude.{◌==◌, ℕ, List, Result, Ok, Err, filter, fold, length, max}
use Rattle.ks_engine.specs.declared.error.EngineError.{EngineError}
use Rattle.ks_engine.specs.declared.explaining.Explanation.{Explanation}
use Rattle.ks_engine.specs.declared.staleness.BuildState.{BuildState}
use Rattle.ks_engine.specs.declared.staleness.BuildState.TheVariants.{CommandDiffers, Verdict as Evaluated}
use Rattle.ks_engine.specs.declared.staleness.Verdict.{Verdict as VerdictValue}
use Rattle.ks_engine.specs.declared.staleness.Verdict.TheVariants as verdict
use Rattle.ks_engine.specs.declared.commands.Reply.{Reply}
use Rattle.ks_engine.specs.declared.commands.Reply.TheVariants.{Verdict, Refused}
use Rattle.ks_requests.specs.declared.status.Status.{Status}
use Rattle.ks_requests.specs.declared.status.Status.TheVariants as status

-- any verdict but fresh is stale, and so is another command
abbrev pub verdict_status : VerdictValue → ℕ
verdict_status verdict.Fresh = 0
verdict_status _ = 1

abbrev pub explanation_status : Explanation → ℕ
explanation_status e = verdict_status e.verdict

abbrev pub build_status : BuildState → ℕ
build_status CommandDiffers = 1
build_status (Evaluated v) = verdict_status v

abbrev pub status_unless_refused : {A : Type 0} → (A → ℕ) → Result A EngineError → ℕ
status_unless_refused of (Ok x) = of x
status_unless_refused of (Err e) = 2

abbrev pub reply_status : Reply → ℕ
reply_status (Verdict v) = verdict_status v
reply_status (Refused e) = 2
reply_status _ = 0

-- the worst of several
abbrev pub worst : List ℕ → ℕ
worst statuses = fold max 0 statuses

-- how many of them are those of stale objects
abbrev pub stale_among : List ℕ → ℕ
stale_among statuses = length (filter (λ status. status == 1) statuses)

-- the exit status
abbrev pub code_of : Status → ℕ
code_of status.Done = 0
code_of status.Stale = 1
code_of status.Refused = 2
