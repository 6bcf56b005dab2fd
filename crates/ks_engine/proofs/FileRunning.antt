-- A run by the files goes on by one command; and each history that its first files show goes on with it.
use Rattle.ks_engine.proofs.Prelude.{FromKconfig, ◌≡◌, ◌∙◌, ℕ, ◌+◌, ◌<◌, List, [], ◌∷◌, ◌++◌, refl, sym, ap, ap₂, subst, Ok, Err, map, take, length, length-map, length-take, get_or, ⊤, take_more, map-append, Action, Dialect, Sync, Record, Call, action, call_of, calls_of, reply_to, Command, CommandReply, Reply, FileState, Files, LeavesFiles, BackdateScope, StepsTo, FileRun, TreeState, at, History, IsEvaluatedReply, FollowsQuery, Leaves, read_in, Run, Shows, reported, arith, common_steps, rules}
use Rattle.ks_engine.specs.Actions.{SyncFrom, SyncAllStamps, Depfile, Stale, Why, Predicted, Backdate, Outdated, Read, Synced, Recorded, Evaluated, Explained, Built, Found}
use Rattle.ks_engine.specs.Depfile.{ruled_by}
use Rattle.ks_engine.specs.Recorded.{usual_with}
use Rattle.ks_engine.proofs.Querying.{stale_evaluated}
use Rattle.ks_engine.proofs.DepfileLemmas.{depfile_follows}
use Rattle.ks_engine.proofs.Explanations.{explanation_evaluated}
use Rattle.ks_engine.proofs.Following.{sync_follows}
use Rattle.ks_engine.proofs.RecordSteps.{record_follows_under}
use Rattle.ks_engine.proofs.Running.{no_steps, step_first}
use Rattle.ks_engine.proofs.Stamping.{stamped_follows}

-- ---- one command more

pub run_more : (dialect : Dialect) (honest : Type 0) (first : FileState) (calls : List Call) (mid : FileState) (call : Call) (last : FileState)
    → FileRun dialect honest first calls mid → StepsTo dialect honest mid call.action call.reply last → FileRun dialect honest first (calls ++ call ∷ []) last
run_more dialect honest first [] mid call last run step = (last, subst (λ (s : FileState). StepsTo dialect honest s call.action call.reply last) run step, refl)
run_more dialect honest first (c ∷ cs) mid call last run step = (run.0, run.1, run_more dialect honest run.0 cs mid call last run.2 step)

calls_more : (acts : List Action) (rs : List CommandReply) (a : Action) (r : CommandReply) → length rs ≡ length acts
    → calls_of (acts ++ a ∷ []) (rs ++ r ∷ []) ≡ calls_of acts rs ++ call_of a r ∷ []
calls_more [] [] a r as_many = refl
calls_more (b ∷ bs) (q ∷ qs) a r as_many = ap (λ cs. call_of b q ∷ cs) (calls_more bs qs a r (omega (arith, as_many)))
calls_more [] (q ∷ qs) a r as_many = absurd (omega (arith, as_many))
calls_more (b ∷ bs) [] a r as_many = absurd (omega (arith, as_many))

-- the same, of the commands up to a place
pub more : (dialect : Dialect) (honest : Type 0) (first : FileState) (cs : List Command) (i : ℕ) (d : Command) (rs new : List CommandReply) (mid : FileState)
    (r : CommandReply) (last : FileState) → i < length cs → length rs ≡ i → FileRun dialect honest first (calls_of (map action (take i cs)) rs) mid
    → StepsTo dialect honest mid (action (get_or cs i d)) (reply_to (action (get_or cs i d)) r) last → new ≡ rs ++ r ∷ []
    → FileRun dialect honest first (calls_of (map action (take (i + 1) cs)) new) last
more dialect honest first cs i d rs new mid r last test as_many run step items =
    let acts = map action (take i cs) in
    let a = action (get_or cs i d) in
    let many : length rs ≡ length acts = grind (arith, common_steps, length-map, length-take) in
    let next : map action (take (i + 1) cs) ≡ acts ++ a ∷ [] = grind (arith, common_steps, map-append, take_more) in
    subst (λ (calls : List Call). FileRun dialect honest first calls last) (sym (calls_more acts rs a r many) ∙ sym (ap₂ calls_of next items))
    (run_more dialect honest first (calls_of acts rs) mid (call_of a r) last run step)

-- what is said of an honest tree by its honesty
backdates_on_honest : (honest : Type 0) (old : FileState) (a : Action) (r : Reply) (backdated : List (List ℕ)) → honest → BackdateScope honest old a r backdated → BackdateScope ⊤ old a r backdated
backdates_on_honest honest old (Backdate which o) (Explained r spelling) backdated is backdates = λ t. backdates is
backdates_on_honest honest old a r backdated is backdates = backdates

pub on_honest : (dialect : Dialect) (honest : Type 0) (first : FileState) (calls : List Call) (last : FileState) → honest → FileRun dialect honest first calls last
    → FileRun dialect ⊤ first calls last
on_honest dialect honest first [] last is run = run
on_honest dialect honest first (call ∷ calls) last is run =
    let step = run.1 in (
      run.0,
      record {
        leaves = λ t. step.leaves is;
        backdates = backdates_on_honest honest first call.action call.reply run.0.backdated is step.backdates;
        later = step.later;
        cause = step.cause;
        uncounted = step.uncounted;
      },
      on_honest dialect honest run.0 calls last is run.2,
    )

-- ---- the history that goes on with it

abbrev with : FileState → History → TreeState
with s h = at s.files s.failures h

evaluated : (dialect : Dialect) (old : FileState) (a : Action) (r : Reply) (new : FileState) (h : History) → Shows old.files h → LeavesFiles dialect old.files a r new.files
    → IsEvaluatedReply (with old h) a r
evaluated dialect old (Stale o) (Evaluated r) new h shows is = λ w last. stale_evaluated old.files h o w r is.1 shows last
evaluated dialect old (Stale o) (Explained r spelling) new h shows is = λ w last. stale_evaluated old.files h o w (reported r) is.1 shows last
evaluated dialect old (Backdate which o) (Explained r spelling) new h shows is = λ w last. stale_evaluated old.files h o w (reported r) is.1 shows last
evaluated dialect old (Why o) (Explained r spelling) new h shows is = λ w last. (explanation_evaluated old.files h o w r is.1.by_files shows last).evaluated
evaluated dialect old a r new h shows is = tt

stays : (dialect : Dialect) (old : FileState) (a : Action) (r : Reply) (new : FileState) (h : History) → Shows old.files h → LeavesFiles dialect old.files a r new.files
    → new.files ≡ old.files → (next : History) × FollowsQuery dialect (with old h) a r (with new next) × Shows new.files next
stays dialect old a r new h shows is same = (
  h,
  record { same = (same, refl); by_files = is; recorded = evaluated dialect old a r new h shows is },
  subst (λ (f : Files). Shows f h) (sym same) shows,
)

pub step_goes_on : (dialect : Dialect) (old : FileState) (a : Action) (r : Reply) (new : FileState) (h : History) → Shows old.files h → LeavesFiles dialect old.files a r new.files
    → (next : History) × Leaves dialect (with old h) a r (with new next) × Shows new.files next
step_goes_on dialect old (Sync k d) (Synced (Ok report)) new h shows is =
    sync_follows old.files new.files old.failures new.failures h (FromKconfig (read_in dialect k) d) (Ok report) shows is tt
step_goes_on dialect old (Sync k d) (Synced (Err e)) new h shows is =
    sync_follows old.files new.files old.failures new.failures h (FromKconfig (read_in dialect k) d) (Err e) shows tt is
step_goes_on dialect old (SyncFrom source) (Synced (Ok report)) new h shows is =
    sync_follows old.files new.files old.failures new.failures h source (Ok report) shows is tt
step_goes_on dialect old (SyncFrom source) (Synced (Err e)) new h shows is =
    sync_follows old.files new.files old.failures new.failures h source (Err e) shows tt is
step_goes_on dialect old (SyncAllStamps k d) (Synced (Ok report)) new h shows is =
    stamped_follows old.files new.files old.failures new.failures h k d (Ok report) shows is tt
step_goes_on dialect old (SyncAllStamps k d) (Synced (Err e)) new h shows is =
    stamped_follows old.files new.files old.failures new.failures h k d (Err e) shows tt is
step_goes_on dialect old (Record options d t c) (Recorded (Ok answer)) new h shows is =
    record_follows_under (usual_with options dialect) old.files new.files old.failures new.failures h d t c (Ok answer) shows is tt
step_goes_on dialect old (Record options d t c) (Recorded (Err e)) new h shows is =
    record_follows_under (usual_with options dialect) old.files new.files old.failures new.failures h d t c (Err e) shows tt is
step_goes_on dialect old (Depfile header options d t c) (Recorded (Ok answer)) new h shows is =
    depfile_follows (ruled_by header options dialect) old.failures new.failures h d t c (Ok answer) shows is tt
step_goes_on dialect old (Depfile header options d t c) (Recorded (Err e)) new h shows is =
    depfile_follows (ruled_by header options dialect) old.failures new.failures h d t c (Err e) shows tt is
step_goes_on dialect old (Stale o) (Evaluated r) new h shows is = stays dialect old (Stale o) (Evaluated r) new h shows is is.0
step_goes_on dialect old (Why o) (Explained r spelling) new h shows is = stays dialect old (Why o) (Explained r spelling) new h shows is is.0
step_goes_on dialect old (Stale o) (Explained r spelling) new h shows is = stays dialect old (Stale o) (Explained r spelling) new h shows is is.0
step_goes_on dialect old (Predicted s o) (Explained r spelling) new h shows is = stays dialect old (Predicted s o) (Explained r spelling) new h shows is is.0
step_goes_on dialect old (Backdate which o) (Explained r spelling) new h shows is = stays dialect old (Backdate which o) (Explained r spelling) new h shows is is.0
step_goes_on dialect old (Outdated o c) (Built r) new h shows is = stays dialect old (Outdated o c) (Built r) new h shows is is.0
step_goes_on dialect old (Read o) (Found r) new h shows is = stays dialect old (Read o) (Found r) new h shows is is.0
step_goes_on dialect old a r new h shows is = absurd is

pub goes_on : (dialect : Dialect) (honest : Type 0) (first : FileState) (calls : List Call) (last : FileState) (h : History) → honest → Shows first.files h
    → FileRun dialect honest first calls last → (next : History) × Run dialect (with first h) calls (with last next)
goes_on dialect honest first [] last h is shows run = search (rules, no_steps)
goes_on dialect honest first (call ∷ calls) last h is shows run =
    let step = run.1 in
    let one = step_goes_on dialect first call.action call.reply run.0 h shows (step.leaves is) in
    let rest = goes_on dialect honest run.0 calls last one.0 is one.2 run.2 in
    (rest.0, step_first dialect _ _ _ call calls shows (record { leaves = one.1; later = step.later; cause = step.cause }) one.2 rest.1)
