-- What the last history of a run says of each of its steps.
use Rattle.ks_engine.proofs.Prelude.{◌≡◌, ◌⊎◌, ℕ, Some, last_record, List, [], ◌∷◌, ap, refl, subst, Ok, Err, IfOk, LastRecord, All-nil, All-head, All-tail, Action, Call, Dialect, Sync, Record, Reply, IsAbortedAnswer, History, NoneBroken, TreeState, IsShown, Step, Follows, Leaves, Leads, Run, IsEvaluated, IsEvaluatedReply, IsSuspectVerdict, IsChangedVerdict, IsSafeVerdict, IsAbortedSync, HasSameDefinitions, Result, EngineError, first_suspect, verdict, Fresh, rules}
use Rattle.ks_engine.specs.Actions.{SyncFrom, SyncAllStamps, Depfile, Stale, Why, Backdate, Synced, Recorded, Evaluated, Explained}
use Rattle.ks_engine.specs.Asked.{reported as verdict_in}
use Rattle.ks_engine.specs.declared.staleness.Verdict.{Verdict as VerdictValue}
use Rattle.ks_engine.specs.Staleness.{first_changed}

-- ---- what an action adds to a history: nothing, a completed synchronisation, a record, or a broken synchronisation where it was given up

-- What a history goes on to has no broken synchronisation only where it has none itself, and has none where no synchronisation was given up.
abbrev GoesOn : Type 0 → History → History → Type 0
GoesOn given h next = (NoneBroken next → NoneBroken h) × ((given → ⊥) → NoneBroken h → NoneBroken next)

pub goes_on : (dialect : Dialect) (old : TreeState) (a : Action) (r : Reply) (new : TreeState) → Leaves dialect old a r new
    → GoesOn (IsAbortedSync a r) old.history new.history
goes_on dialect old (Sync k d) (Synced (Ok report)) new is = search rules
goes_on dialect old (Sync k d) (Synced (Err e)) new is = search rules
goes_on dialect old (SyncFrom s) (Synced (Ok report)) new is = search rules
goes_on dialect old (SyncFrom s) (Synced (Err e)) new is = search rules
goes_on dialect old (SyncAllStamps k d) (Synced (Ok report)) new is = search rules
goes_on dialect old (SyncAllStamps k d) (Synced (Err e)) new is = search rules
goes_on dialect old (Record options d o c) (Recorded (Ok answer)) new is = search rules
goes_on dialect old (Record options d o c) (Recorded (Err e)) new is = search rules
goes_on dialect old (Depfile header options d o c) (Recorded (Ok answer)) new is = search rules
goes_on dialect old (Depfile header options d o c) (Recorded (Err e)) new is = search rules
goes_on dialect old a r new is = search rules

pub none_first : (dialect : Dialect) (first : TreeState) (steps : List Step) (last : TreeState) → Leads dialect first steps last → NoneBroken last.history → NoneBroken first.history
none_first dialect first [] last leads none = subst (λ (s : TreeState). NoneBroken s.history) leads none
none_first dialect first (s ∷ ss) last leads none = search (rules, goes_on, (none_first dialect s.after ss last leads.3 none))

-- ---- the verdict of a step

same : (r : Result VerdictValue EngineError) (w : VerdictValue) → IsAbortedAnswer r ⊎ (r ≡ Ok w) → IfOk r (λ v. v ≡ w)
same (Ok v) w stated = search rules
same (Err e) w stated = tt

fresh : (r : Result VerdictValue EngineError) (P : Type 0) → (r ≡ Ok Fresh → P) → IfOk r (λ v. v ≡ Fresh → P)
fresh (Ok v) P safe = λ is. safe (ap (λ x. Ok x) is)
fresh (Err e) P safe = tt

-- what is judged of an answer
abbrev Says : TreeState → Action → Reply → Type 0
Says old a r = IsSuspectVerdict old.history a r × (NoneBroken old.history → IsChangedVerdict old.history a r) × IsSafeVerdict old a r

says_of : (s : TreeState) (o : List ℕ) (r : Result VerdictValue EngineError) → ((w : LastRecord) → last_record s.history o ≡ Some w → IsEvaluated s.files s.history o w r)
    → ((w : LastRecord) → last_record s.history o ≡ Some w → IfOk r (λ v. v ≡ verdict (first_suspect s.history o)))
    × (NoneBroken s.history → (w : LastRecord) → last_record s.history o ≡ Some w → IfOk r (λ v. v ≡ verdict (first_changed s.history o)))
    × ((w : LastRecord) → last_record s.history o ≡ Some w → IfOk r (λ v. v ≡ Fresh → HasSameDefinitions s.files w))
says_of s o r is =
    (λ w last. same r _ (is w last).suspect, λ none w last. same r _ ((is w last).changed none), λ w last. fresh r _ (is w last).safe)

says : (s : TreeState) (a : Action) (r : Reply) → IsEvaluatedReply s a r → Says s a r
says s (Stale o) (Evaluated r) is = says_of s o r is
says s (Stale o) (Explained r spelling) is = says_of s o (verdict_in r) is
says s (Why o) (Explained r spelling) is = says_of s o (verdict_in r) is
says s (Backdate which o) (Explained r spelling) is = says_of s o (verdict_in r) is
says s a r is = (tt, λ none. tt, tt)

reported : (dialect : Dialect) (old : TreeState) (a : Action) (r : Reply) (new : TreeState) → Leaves dialect old a r new → Says old a r
reported dialect old (Sync k d) (Synced r) new is = (tt, λ none. tt, tt)
reported dialect old (SyncFrom s) (Synced r) new is = (tt, λ none. tt, tt)
reported dialect old (SyncAllStamps k d) (Synced r) new is = (tt, λ none. tt, tt)
reported dialect old (Record options d t c) (Recorded r) new is = (tt, λ none. tt, tt)
reported dialect old (Depfile header options d t c) (Recorded r) new is = (tt, λ none. tt, tt)
reported dialect old a r new is = says old a r is.recorded

-- ---- a run, step by step

pub no_steps : (dialect : Dialect) (first : TreeState) → IsShown first → Run dialect first [] first
no_steps dialect first shown = record {
  steps = [];
  called = refl;
  begun = shown;
  leads = refl;
  shown = shown;
  suspect = All-nil _;
  changed = λ none. All-nil _;
  safe = All-nil _;
  unbroken = λ none kept. none;
}

-- a step in front of a run
pub step_first : (dialect : Dialect) (first mid last : TreeState) (call : Call) (calls : List Call) → IsShown first → Follows dialect call.action call.reply first mid
    → IsShown mid → Run dialect mid calls last → Run dialect first (call ∷ calls) last
step_first dialect first mid last call calls begun follows shown run =
    let step : Step = record { before = first; action = call.action; reply = call.reply; after = mid } in
    let goes = goes_on dialect first call.action call.reply mid follows.leaves in
    let verdict = reported dialect first call.action call.reply mid follows.leaves in
    record {
      steps = step ∷ run.steps;
      called = ap (λ cs. call ∷ cs) run.called;
      begun = begun;
      leads = (refl, follows, shown, run.leads);
      shown = run.shown;
      suspect = search rules;
      changed = search (rules, verdict.1, goes.0, none_first, run.changed);
      safe = search rules;
      unbroken = λ none kept. run.unbroken (goes.1 (All-head (λ (s : Step). IsAbortedSync s.action s.reply → ⊥) step run.steps kept) none)
          (All-tail (λ (s : Step). IsAbortedSync s.action s.reply → ⊥) step run.steps kept);
    }
