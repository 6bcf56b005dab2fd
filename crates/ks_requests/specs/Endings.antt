-- How a request ends: with a text and a status, or refused as a whole.
use Rattle.std.specs.Prelude.{◌≡◌, ◌⊎◌, ◌++◌, ℕ, List, [], Option, Some, None, Result, Ok, Err}
use Rattle.ks_streams.specs.Streams.{Breaks, Prints, PrintsOrBreaks, State}
use Rattle.ks_engine.specs.declared.error.EngineError.{EngineError}
use Rattle.ks_engine.specs.declared.error.EngineError.TheVariants.{OutOfMemory}
use Rattle.ks_engine.specs.Refusals.{IsAborted}
use Rattle.ks_requests.specs.declared.refusal.Refusal.{Refusal}
use Rattle.ks_requests.specs.declared.refusal.Refusal.TheVariants.{Engine, Output}
use Rattle.ks_requests.specs.declared.status.Count.{Count}
use Rattle.ks_requests.specs.declared.status.Count.TheVariants as count
use Rattle.ks_requests.specs.declared.status.Outcome.{Outcome}
use Rattle.ks_requests.specs.Faults.{complaint, hint_of}
use Rattle.ks_requests.specs.Replies.{count_line}
use Rattle.ks_requests.specs.Statuses.{code_of}

abbrev pub Ending : Type 0
Ending = Result Outcome Refusal

-- this text, this status and this count, unless memory is refused for them
abbrev pub ReportsCount : List ℕ → ℕ → Option Count → Ending → Type 0
ReportsCount text status count (Ok o) = (o.text.items ≡ text) × (code_of o.status ≡ status) × (o.count ≡ count)
ReportsCount text status count (Err e) = e ≡ Engine OutOfMemory

-- .. and no count
abbrev pub Reports : List ℕ → ℕ → Ending → Type 0
Reports text status ended = ReportsCount text status None ended

-- .. and these lines about unknown names
abbrev pub IsUnknown : List ℕ → Option Count → Type 0
IsUnknown lines None = lines ≡ []
IsUnknown lines (Some (count.Unknown text)) = text.items ≡ lines
IsUnknown lines (Some (count.Stale stale all)) = ⊥
IsUnknown lines (Some (count.Users users all)) = ⊥

abbrev pub ReportsUnknown : List ℕ → ℕ → List ℕ → Ending → Type 0
ReportsUnknown text status unknown (Ok o) = (o.text.items ≡ text) × (code_of o.status ≡ status) × IsUnknown unknown o.count
ReportsUnknown text status unknown (Err e) = e ≡ Engine OutOfMemory

-- an answer of the engine with the status 0, or its refusal
abbrev pub Answered : {A : Type 0} → (A → List ℕ) → Result A EngineError → Ending → Type 0
Answered text (Ok x) ended = Reports (text x) 0 ended
Answered text (Err e) ended = ended ≡ Err (Engine e)

-- it is refused as a step before it is, or memory or the device fails there
abbrev pub Stopped : {A : Type 0} → Result A EngineError → Ending → Type 0
Stopped step ended = (e : EngineError) × (IsAborted e ⊎ (step ≡ Err e)) × (ended ≡ Err (Engine e))

-- ---- what is printed of it

-- The line of the refusal goes to standard error, after it what stands after it, and in the end what to do.
abbrev pub Complains : Refusal → List ℕ → State → State → Type 0
Complains refusal following before after = PrintsOrBreaks (complaint refusal ++ following ++ hint_of refusal) before after

-- The line of a count goes to standard error; without one that is left alone.
abbrev pub CountGoes : Option Count → State → State → Type 0
CountGoes None before after = after ≡ before
CountGoes (Some c) before after = PrintsOrBreaks (count_line (Some c)) before after

-- The text was printed to the output, its count goes to standard error, and the status is that of the answers.
pub record PrintsAnswers (o : Outcome) (before after err_before err_after : State) (status : ℕ) : Type 0 where
  pub output : Prints o.text.items before after
  pub count : CountGoes o.count err_before err_after
  pub answers : status ≡ code_of o.status

-- A write to the output failed, with a beginning of the text out, and that is refused.
pub record IsCutOff (o : Outcome) (before after err_before err_after : State) (status : ℕ) : Type 0 where
  pub output : Breaks o.text.items before after
  pub reported : Complains Output [] err_before err_after
  pub refused : status ≡ 2

-- A refusal leaves the output alone, and is printed with what stands after its line.
abbrev pub Printed : List ℕ → Ending → State → State → State → State → ℕ → Type 0
Printed following (Ok o) before after err_before err_after status =
    PrintsAnswers o before after err_before err_after status ⊎ IsCutOff o before after err_before err_after status
Printed following (Err e) before after err_before err_after status = (after ≡ before) × Complains e following err_before err_after × (status ≡ 2)
