-- What a question tells of an object.
use Rattle.std.specs.Prelude.{◌≡◌, ◌⊎◌, ℕ, List, Option, None, Some, Result, length, ⊤}
use Rattle.ks_tree.specs.Files.{Files}
use Rattle.ks_engine.specs.declared.backdating.BackdateScope.{BackdateScope}
use Rattle.ks_engine.specs.declared.error.EngineError.{EngineError}
use Rattle.ks_engine.specs.declared.explaining.Explanation.{Explanation}
use Rattle.ks_engine.specs.declared.query.Limit.{Limit}
use Rattle.ks_engine.specs.declared.query.Query.{Query}
use Rattle.ks_engine.specs.declared.query.Query.TheVariants.{Stale, Why, Predicted}
use Rattle.ks_engine.specs.declared.staleness.Verdict.{Verdict}
use Rattle.ks_engine.specs.Backdated.{IsBackdated}
use Rattle.ks_engine.specs.Asked.{reported}
use Rattle.ks_engine.specs.Queries.{IsAnswerTo, limit_of}
use Rattle.ks_engine.specs.Refusals.{IsAbortedAnswer}
use Rattle.ks_engine.specs.Spelling.{spelling_of}
use Rattle.ks_requests.specs.declared.request.OutputFormat.{OutputFormat}
use Rattle.ks_requests.specs.declared.status.Count.{Count}
use Rattle.ks_requests.specs.declared.status.Count.TheVariants as count
use Rattle.ks_requests.specs.declared.status.Outcome.{Outcome}
use Rattle.ks_requests.specs.Statuses.{code_of, explanation_status, stale_among, status_unless_refused, worst}
use Rattle.ks_commands.specs.Spelling.{spelled_in, spelling_reported}
use Rattle.ks_commands.specs.Walks.{Querying, Part, statuses, text_of}

-- An answer by the files, in its lines; where these list all causes, with the other spelling under which the object is recorded.
pub record IsExplainedIn (honest : Type 0) (files : Files) (format : OutputFormat) (limit : Limit) (answers : List ℕ → Result Explanation EngineError → Type 0)
    (p : Part Explanation) : Type 0 where
  pub answered : honest → answers p.object p.answer
  pub spelling : Option (List ℕ)
  pub spelled : honest → spelling_reported limit format spelling ≡ spelling_reported limit format (spelling_of files p.object p.answer)
  pub lines : p.lines ≡ spelled_in format limit p.object p.answer spelling
  pub status : p.status ≡ status_unless_refused explanation_status p.answer

-- What was aged for an object: nothing; or, where stale objects are to be aged, it, by its verdict.
abbrev pub BackdatesFor : Type 0 → Files → Option BackdateScope → List ℕ → List (List ℕ) → Result Verdict EngineError → List (List ℕ) → Type 0
BackdatesFor honest files None o old answer new = new ≡ old
BackdatesFor honest files (Some which) o old answer new = honest → IsBackdated which files o old answer new

abbrev pub explaining : Type 0 → Files → Option BackdateScope → OutputFormat → Limit → (List ℕ → Result Explanation EngineError → Type 0) → Querying Explanation
explaining honest files backdates format limit answers = record {
  reported = IsExplainedIn honest files format limit answers;
  backdates = λ p old new. BackdatesFor honest files backdates p.object old (reported p.answer) new;
}

-- the text and the worst status of all parts, with this count
abbrev pub reports : {A : Type 0} → (List (Part A) → Option Count) → List (Part A) → Outcome → Type 0
reports count parts o = (o.text.items ≡ text_of parts) × (code_of o.status ≡ worst (statuses parts)) × (o.count ≡ count parts)

-- how many are stale, of how many
abbrev pub stale_count : List (Part Explanation) → Option Count
stale_count parts = Some (count.Stale (stale_among (statuses parts)) (length parts))

abbrev pub no_count : {A : Type 0} → List (Part A) → Option Count
no_count parts = None

-- ---- for the proof of the bodies: whichever question it is

abbrev pub querying_by : Type 0 → Files → Option BackdateScope → OutputFormat → Query → Querying Explanation
querying_by honest files backdates format query = explaining honest files backdates format (limit_of query) (IsAnswerTo query files)

-- Who ages what is stale asks whether it is.
abbrev pub MayBackdate : Query → Option BackdateScope → Type 0
MayBackdate query None = ⊤
MayBackdate query (Some which) = query ≡ Stale

-- an object that is reported by its answer and a spelling
abbrev pub explained : OutputFormat → Limit → List ℕ → Result Explanation EngineError → Option (List ℕ) → Part Explanation
explained format limit o answer spelling =
    record { object = o; answer = answer; lines = spelled_in format limit o answer spelling; status = status_unless_refused explanation_status answer }

-- whether stale objects are counted
abbrev pub counted_of : Query → List (Part Explanation) → Option Count
counted_of Stale parts = None
counted_of Why parts = None
counted_of (Predicted impact) parts = stale_count parts

-- An answer is printed as it is, with its spelling where lines show one; or memory or the device fails on the way to that.
abbrev pub IsSpelled : Files → Query → OutputFormat → List ℕ → Result Explanation EngineError → Result Explanation EngineError → Option (List ℕ) → Type 0
IsSpelled files query format o answer reported spelling =
    ((reported ≡ answer) × (spelling_reported (limit_of query) format spelling ≡ spelling_reported (limit_of query) format (spelling_of files o answer)))
    ⊎ ((query ≡ Why) × IsAbortedAnswer reported × (spelling ≡ None))
