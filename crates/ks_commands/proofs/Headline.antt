-- What scripts and runs of the program tell: no synchronisation was broken off before one of them where none was at the end.
use Rattle.ks_commands.proofs.Prelude.{⊤, IsAnswerAfter, IsAnswerOn, IsExplanationOn, IsEvaluated, IsShown, IsStateOn, filter_agree, Dialect, ◌≡◌, ◌<◌, ℕ, List, [], ◌∷◌, Some, Result, Ok, Err, IfOk, IsTrue, inl, inr, subst, filter, map, fold, max, arith, All, is_command, All-nil, All-cons, Reply, Refused, EngineError, Explanation, BuildState, Report, Action, Sync, TreeState, FollowsDepfile, FollowsStamps, Stamps, History, LastRecord, NoneBroken, last_record, Step, changed_since, found, suspect_since, IsAbortedSync, suspect_since-changed_since, Request, Ending, reply_status, None, state_of, reports, no_count, BatchReportsChanges, Continues, Runs, ProgramReportsChanges, StepsReportChanges, ReportsAfter, ReportsBuild, ReportsCauses, ReportsChange, rules, Call, call_in, call_of, calls_of, reply_to}
use Rattle.ks_engine.specs.declared.conventions.RecordOptions.{RecordOptions}
use Rattle.ks_engine.specs.Follows.{FollowsRecordUnder}
use Rattle.ks_engine.specs.Recorded.{usual_with}
use Rattle.ks_engine.proofs.Querying.{build_evaluated, stale_evaluated}
use Rattle.ks_engine.proofs.Explanations.{explanation_evaluated}
use Rattle.ks_engine.proofs.Predicting.{impact_evaluated}
use Rattle.ks_engine.proofs.Running.{goes_on, none_first}
use Rattle.ks_engine.specs.Actions.{SyncFrom, SyncAllStamps, Record, Depfile, Synced, Recorded}
use Rattle.ks_engine.specs.Depfile.{ruled_by}
use Rattle.ks_engine.specs.Sources.{FromConf, FromKconfig, Source}
use Rattle.ks_fixdep.specs.declared.dependency_file.Header.{Header}
use Rattle.ks_engine.specs.declared.recording.Recorded.{Recorded as RecordAnswer}
use Rattle.ks_engine.specs.declared.staleness.Verdict.{Verdict as VerdictValue}
use Rattle.ks_engine.specs.History.{Synced as Past}
use Rattle.ks_engine.specs.declared.query.Limit.TheVariants.{First, All as Every}
use Rattle.ks_commands.proofs.Prelude.{at, reported}
use Rattle.ks_requests.specs.declared.request.OutputFormat.TheVariants.{Text}
use Rattle.ks_requests.specs.declared.request.Request.TheVariants as request
use Rattle.ks_requests.specs.declared.request.Stamps.TheVariants as stamps
use Rattle.ks_commands.proofs.Walks.{answers_weaker, below_two, impact_weaker}

-- ---- none was broken off before a step where none is after it

none_before_stamps : (dialect : Dialect) (which : Stamps) (source : Source) (answer : Result Report EngineError) (old new : TreeState)
    → FollowsStamps which source answer old new → NoneBroken new.history → NoneBroken old.history
none_before_stamps dialect stamps.Touched source answer old new is none = (goes_on dialect old (SyncFrom source) (Synced answer) new is).0 none
none_before_stamps dialect stamps.Declared (FromKconfig k d) answer old new is none = (goes_on dialect old (SyncAllStamps k d) (Synced answer) new is).0 none
none_before_stamps dialect stamps.Declared (FromConf d a b) answer old new is none = (goes_on dialect old (SyncFrom (FromConf d a b)) (Synced answer) new is).0 none

none_before_recorded : (dialect : Dialect) (options : RecordOptions) (d t c : List ℕ) (answer : Result RecordAnswer EngineError) (old new : TreeState)
    → FollowsRecordUnder (usual_with options dialect) d t c answer old new → NoneBroken new.history → NoneBroken old.history
none_before_recorded dialect options d t c answer old new is none = (goes_on dialect old (Record options d t c) (Recorded answer) new is).0 none

none_before_depfile : (dialect : Dialect) (header : Header) (options : RecordOptions) (d t c : List ℕ) (answer : Result RecordAnswer EngineError) (old new : TreeState)
    → FollowsDepfile (ruled_by header options dialect) d t c answer old new → NoneBroken new.history → NoneBroken old.history
none_before_depfile dialect header options d t c answer old new is none = (goes_on dialect old (Depfile header options d t c) (Recorded answer) new is).0 none

pub none_before_program : (dialect : Dialect) (r : Request) (ended : Ending) (old new : TreeState) → Continues dialect r ended old new → NoneBroken new.history → NoneBroken old.history
none_before_program dialect (request.Batch p) ended old new (a, b, is) none = search (rules, none_first)
none_before_program dialect asked ended old new (a, b, is) none = search (rules, (none_before_stamps dialect), none_before_recorded, none_before_depfile)

-- ---- what is printed then

-- the verdict of a recorded object
evaluated_reports : (s : TreeState) (o : List ℕ) (answer : Result VerdictValue EngineError) → NoneBroken s.history
    → ((r : LastRecord) → last_record s.history o ≡ Some r → IsEvaluated s.files s.history o r answer) → ReportsChange s o answer
evaluated_reports s o answer none evaluated = record { changed = λ r was. (evaluated r was).changed none; safe = λ r was. (evaluated r was).safe }

-- the suspect names are the changed ones
causes_changed : (s : TreeState) (o : List ℕ) (answer : Result Explanation EngineError) → NoneBroken s.history
    → IfOk answer (λ e. map (λ c. c.name) e.causes.items ≡ filter (suspect_since s.history o) (found s.history o))
    → IfOk answer (λ e. map (λ c. c.name) e.causes.items ≡ filter (changed_since s.history o) (found s.history o))
causes_changed s o (Ok e) none is = search (rules, filter_agree, suspect_since-changed_since)
causes_changed s o (Err e) none is = is

one_record : (h : History) (o : List ℕ) (r w : LastRecord) → last_record h o ≡ Some r → last_record h o ≡ Some w → r ≡ w
one_record h o r w a b = cc

build_reports : (old : TreeState) (o command : List ℕ) (answer : Result BuildState EngineError) → IsShown old → NoneBroken old.history
    → IsStateOn old.files o command answer → IsTrue (is_command command) → ReportsBuild old o command answer
build_reports old o command answer shown none is legal = record {
  differs = λ r was other. (build_evaluated old.files old.history o command r answer is legal shown was).differs other;
  same = λ r was alike.
      let found = (build_evaluated old.files old.history o command r answer is legal shown was).same alike in
      (found.0, found.1, evaluated_reports old o found.0 none (λ w last. subst (λ v. IsEvaluated old.files old.history o v found.0) (one_record old.history o r w was last) found.2));
}

steps_report : (dialect : Dialect) (old new : TreeState) (actions : List Action) (replies : List Reply) → NoneBroken new.history
    → Runs dialect old new actions replies → StepsReportChanges dialect old new actions replies
steps_report dialect old new actions replies none (failures, later, run) = search rules

verdict_reports : (old : TreeState) (o : List ℕ) (answer : Result VerdictValue EngineError) → IsShown old → NoneBroken old.history → IsAnswerOn old.files o answer
    → ReportsChange old o answer
verdict_reports old o answer shown none is = evaluated_reports old o answer none (λ r was. stale_evaluated old.files old.history o r answer is shown was)

causes_report : (old : TreeState) (o : List ℕ) (answer : Result Explanation EngineError) → IsShown old → NoneBroken old.history → IsExplanationOn old.files o answer
    → ReportsCauses old o answer
causes_report old o answer shown none is =
    let evaluated = λ (r : LastRecord) (was : last_record old.history o ≡ Some r). explanation_evaluated old.files old.history o r answer is.by_files shown was in
    record { reports = evaluated_reports old o (reported answer) none (λ r was. (evaluated r was).evaluated); causes = λ r was. causes_changed old o answer none (evaluated r was).suspects }

after_reports : (old : TreeState) (source : Source) (o : List ℕ) (answer : Result VerdictValue EngineError) → IsShown old → NoneBroken old.history
    → IsAnswerAfter old.files source o answer → ReportsAfter old source o answer
after_reports old source o answer shown none is = λ after report synced.
    evaluated_reports (at after old.failures (Past synced.plan.title synced.plan.config old.history)) o answer none
    (λ r was. impact_evaluated old.files source o answer is after report synced old.history r shown was)

pub program_reports : (dialect : Dialect) (r : Request) (ended : Ending) (old new : TreeState) → IsShown old → NoneBroken old.history → NoneBroken new.history
    → Continues dialect r ended old new → ProgramReportsChanges (record { dialect = dialect; before = old; request = r; ended = ended; after = new })
program_reports dialect (request.Stale ts f) ended old new shown none later (a, b, is) = (
  a,
  b,
  (
    is.0,
    answers_weaker ⊤ None f First (λ o answer. IsAnswerOn old.files o (reported answer)) (λ o answer. ReportsChange old o (reported answer)) (reports no_count)
        (state_of old a) ts ended (state_of new b) (λ o answer. verdict_reports old o (reported answer) shown none) is.1,
  ),
)
program_reports dialect (request.Backdate which ts) ended old new shown none later (a, b, is) = (
  a,
  b,
  (
    is.0,
    answers_weaker ⊤ (Some which) Text First (λ o answer. IsAnswerOn old.files o (reported answer)) (λ o answer. ReportsChange old o (reported answer)) (reports no_count)
        (state_of old a) ts ended (state_of new b) (λ o answer. verdict_reports old o (reported answer) shown none) is.1,
  ),
)
program_reports dialect (request.Why ts f) ended old new shown none later (a, b, is) = (
  a,
  b,
  (
    is.0,
    answers_weaker ⊤ None f Every (IsExplanationOn old.files) (ReportsCauses old) (reports no_count) (state_of old a) ts ended (state_of new b)
        (λ o answer. causes_report old o answer shown none) is.1,
  ),
)
program_reports dialect (request.Impact c ts f) ended old new shown none later (a, b, is) = (
  a,
  b,
  (
    is.0,
    impact_weaker ⊤ dialect (IsAnswerAfter old.files) (ReportsAfter old) (state_of old a) c f ts ended
        (state_of new b) (λ source o answer. after_reports old source o answer shown none) is.1,
  ),
)
program_reports dialect asked ended old new shown none later (a, b, is) = (a, b, search (rules, build_reports, steps_report))

-- ---- a script without a refusal

not_aborted : (a : Action) (r : Reply) → reply_status r < 2 → IsAbortedSync a (reply_to a r) → ⊥
not_aborted (Sync k d) (Refused e) small given = omega (arith, small)
not_aborted (SyncFrom source) (Refused e) small given = given
not_aborted (SyncAllStamps k d) (Refused e) small given = given
not_aborted a r small given = given

none_aborted : (a : ℕ) (steps : List Step) (acts : List Action) (rs : List Reply) → map call_in steps ≡ calls_of acts rs → fold max a (map reply_status rs) < 2
    → All (λ step. IsAbortedSync step.action step.reply → ⊥) steps
none_aborted a [] acts rs same small = search (rules, All-nil)
none_aborted a (s ∷ ss) (b ∷ bs) (r ∷ rs) same small =
    let one : call_in s ≡ call_of b r = cc in
    let more : map call_in ss ≡ calls_of bs rs = cc in
    let below : reply_status r < 2 = omega (arith, below_two (max a (reply_status r)) (map reply_status rs) small) in
    All-cons (λ step. IsAbortedSync step.action step.reply → ⊥) s ss
    (λ given. not_aborted b r below (subst (λ (c : Call). IsAbortedSync c.action c.reply) one given))
    (none_aborted (max a (reply_status r)) ss bs rs more small)
none_aborted a (s ∷ ss) [] rs same small = absurd cc
none_aborted a (s ∷ ss) (b ∷ bs) [] same small = absurd cc

pub batch_reports_changes : BatchReportsChanges
batch_reports_changes dialect path o old new small none (inr (script, actions, spelled, at, inr ran)) =
    let last = ran.1.2.unbroken none (none_aborted 0 ran.1.2.steps actions ran.0 ran.1.2.called (rw (← ran.2.1) small)) in
    search (rules, steps_report)
batch_reports_changes dialect path o old new small none (inr (script, actions, spelled, at, inl memory)) = inr (script, actions, spelled, at, inl memory)
batch_reports_changes dialect path o old new small none (inl stopped) = inl stopped
