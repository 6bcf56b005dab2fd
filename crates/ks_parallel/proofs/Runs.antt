-- Each process alone shows its record after what its command does, so all together show each shuffle of them.
use Rattle.ks_parallel.proofs.Prelude.{◌≡◌, inl, inr, ⊎_elim, ℕ, zero, suc, ◌+◌, ◌<◌, ◌≤◌, List, [], ◌∷◌, Bool, true, Some, Result, Ok, Err, length, get_or, sym, ◌∙◌, ap, refl, arith, cases_lt, or_left, or_right, and_from, eq-eqb, bytes_eq-Decides, header_path, Files, content, History, Shows, at, depfile_follows, record_follows_under, Conventions, IsRecordEvent, IsRecordOf, LeavesBy, Way, get_or_default, own, view, is_own_job, is_others_job, without, RecordEvent, with_records, IsOfJob, Act, after_acts, Process, targets_from, targets_of, RunsApart, RunsSideBySide, AddsBy, rules}
use Rattle.ks_parallel.specs.Runs.{Recording, Ruling}
use Rattle.ks_engine.specs.declared.error.EngineError.{EngineError}
use Rattle.ks_engine.specs.declared.recording.Recorded.{Recorded}
use Rattle.ks_parallel.proofs.Each.{Each, each_all}
use Rattle.ks_parallel.proofs.Parts.{Stated, same_stated}
use Rattle.ks_parallel.proofs.Apart.{view_at}
use Rattle.ks_parallel.proofs.Joined.{views_show}
use Rattle.ks_parallel.proofs.Stamping.{stampers_side_by_side}

-- ---- one process

event : (files : Files) (m : ℕ) (h next : History) (o c : List ℕ) (names : List (List ℕ)) → IsRecordEvent (at files m h) o c names next
    → (e : RecordEvent) × (next ≡ with_records h (e ∷ [])) × IsRecordOf files o c e × (e.names ≡ names)
event files m h next o c names is = (
  record { object = o; command = c; names = names; header = is.0 },
  is.2,
  record { object = refl; command = refl; header = is.1 },
  refl,
)

-- the records that it adds, which its files show after the history
record IsAdded (files now : Files) (h : History) (o c : List ℕ) (answer : Result Recorded EngineError) : Type 0 where
  es : List RecordEvent
  adds : AddsBy files h o c answer es
  shows : Shows now (with_records h es)

module _ (files now : Files) (h : History) (shows : Shows files h) where
  recorded : (conventions : Conventions) (d t c : List ℕ) (answer : Result Recorded EngineError) → LeavesBy (Recording conventions) files now d t c answer
      → IsAdded files now h t c answer
  recorded conventions d t c (Ok answer) leaves =
      let next = record_follows_under conventions files now 0 0 h d t c (Ok answer) shows leaves tt in
      ⊎_elim
      (λ some. let e = event files 0 h next.0 t c next.1.files.plan.names some.1 in
      record { es = e.0 ∷ []; adds = inl (some.0, (e.0, refl, e.2, next.1.files.names ∙ ap length (sym e.3))); shows = rw e.1 at next.2 })
      (λ none. record { es = []; adds = inr (none.0, refl); shows = rw none.1 at next.2 })
      next.1.history
  recorded conventions d t c (Err fault) leaves =
      let next = record_follows_under conventions files now 0 0 h d t c (Err fault) shows tt leaves in
      let unchanged : next.0 ≡ h → IsAdded files now h t c (Err fault) = λ same. record { es = []; adds = inl refl; shows = rw same at next.2 } in
      ⊎_elim
      (λ plain. unchanged plain.1.1)
      (λ given. ⊎_elim (λ same. unchanged same.1) (λ tried. ⊎_elim unchanged (λ some.
      let e = event files 0 h next.0 t c tried.0.plan.names some in
      record { es = e.0 ∷ []; adds = inr (given.0, (e.0, refl, e.2)); shows = rw e.1 at next.2 }) tried.1) given.1)
      next.1

  ruled : (conventions : Conventions) (d t c : List ℕ) (answer : Result Recorded EngineError) → LeavesBy (Ruling conventions) files now d t c answer
      → IsAdded files now h t c answer
  ruled conventions d t c (Ok answer) leaves =
      let next = depfile_follows conventions {old = files} {new = now} 0 0 h d t c (Ok answer) shows leaves tt in
      let same = next.1.history in
      ⊎_elim
      (λ some. let e = event files 0 h next.1.between.history t c next.1.recorded.files.plan.names some.1 in
      record {
        es = e.0 ∷ [];
        adds = inl (some.0, (e.0, refl, e.2, next.1.recorded.files.names ∙ ap length (sym e.3)));
        shows = rw (same ∙ e.1) at next.2;
      })
      (λ none. record { es = []; adds = inr (none.0, refl); shows = rw (same ∙ none.1) at next.2 })
      next.1.recorded.history
  ruled conventions d t c (Err fault) leaves =
      let next = depfile_follows conventions {old = files} {new = now} 0 0 h d t c (Err fault) shows tt leaves in
      let unchanged : next.0 ≡ h → IsAdded files now h t c (Err fault) = λ same. record { es = []; adds = inl refl; shows = rw same at next.2 } in
      ⊎_elim
      (λ own. unchanged own.2.1)
      (λ on. ⊎_elim
      (λ record_refused. ⊎_elim
      (λ plain. unchanged plain.1.1)
      (λ given. ⊎_elim (λ same. unchanged same.1) (λ tried. ⊎_elim unchanged (λ some.
      let e = event files 0 h next.0 t c tried.0.plan.names some in
      record { es = e.0 ∷ []; adds = inr (given.0, (e.0, refl, e.2)); shows = rw e.1 at next.2 }) tried.1) given.1)
      record_refused)
      (λ broken. ⊎_elim
      (λ some. let e = event files 0 h broken.1.between.history t c broken.1.recorded.files.plan.names some.1 in
      record { es = e.0 ∷ []; adds = inr (broken.0, (e.0, refl, e.2)); shows = rw (broken.1.history ∙ e.1) at next.2 })
      (λ none. unchanged (broken.1.history ∙ none.1))
      broken.1.recorded.history)
      on)
      next.1

  added_alone : (way : Way) (d t c : List ℕ) (answer : Result Recorded EngineError) → LeavesBy way files now d t c answer → IsAdded files now h t c answer
  added_alone (Recording conventions) d t c answer leaves = recorded conventions d t c answer leaves
  added_alone (Ruling conventions) d t c answer leaves = ruled conventions d t c answer leaves

-- ---- all of them

-- what stands at a place, whatever stood for a place after the end
standing : {A : Type 0} (xs : List A) (i : ℕ) → i < length xs → (x : A) × ((d : A) → get_or xs i d ≡ x)
standing [] i within = absurd (omega arith)
standing (x ∷ xs) i within = (get_or (x ∷ xs) i x, λ d. get_or_default (x ∷ xs) i d x within)

own_target : (rs : List Process) (n i k : ℕ) (d : Process) → k ≡ n + i → i < length rs → is_own_job (targets_from n rs) k (get_or rs i d).target ≡ true
own_target [] n i k d at within = absurd (omega arith)
own_target (r ∷ rs) n zero k d at within = search (rules, or_left, and_from, eq-eqb, bytes_eq-Decides)
own_target (r ∷ rs) n (suc i) k d at within = search (rules, or_right, (own_target rs (n + 1) i k d))

view_some : (p : List ℕ → Bool) (f : Files) (q b : List ℕ) → content (view p f) q ≡ Some b → content f q ≡ Some b
view_some p f q b at = search (rules, view_at)

module _ (rs : List Process) (seen : ℕ → List ℕ → Bool) (names : List (List ℕ)) (files : Files) (acts : List (ℕ × Act)) (h : History)
    (are : RunsApart rs seen names files acts) (shows : Shows files h) where
  whole : (i : ℕ) (o c : List ℕ) (answer : Result Recorded EngineError) (es : List RecordEvent)
      → AddsBy (view (seen i) files) (without (is_others_job (targets_of rs) i) h) o c answer es → AddsBy files h o c answer es
  whole i o c (Ok answer) es is =
      let same = ap (λ (w : Stated). w.synced) (same_stated (is_others_job (targets_of rs) i) h) in
      let header = view_some (seen i) files header_path in grind (arith, header, same)
  whole i o c (Err fault) es is = let header = view_some (seen i) files header_path in grind (arith, header)

  its_target : (i : ℕ) (o c : List ℕ) (answer : Result Recorded EngineError) (es : List RecordEvent) → AddsBy files h o c answer es
      → is_own_job (targets_of rs) i o ≡ true → Each (IsOfJob (targets_of rs) i) es
  its_target i o c (Ok answer) es is own = search rules
  its_target i o c (Err fault) es is own = search rules

  record IsPart (i : ℕ) : Type 0 where
    es : List RecordEvent
    added : (d : Process) → i < length rs → AddsBy files h (get_or rs i d).target (get_or rs i d).command (get_or rs i d).answer es
    none : length rs ≤ i → es ≡ []
    its : Each (IsOfJob (targets_of rs) i) es
    shown : Shows (after_acts (view (seen i) files) (own i acts)) (with_records (without (is_others_job (targets_of rs) i) h) es)

  of_process : (i : ℕ) → IsPart i
  of_process i = ⊎_elim
      (λ within.
      let r = standing rs i within in
      let run = get_or rs i r.0 in
      let made = added_alone (view (seen i) files) (after_acts (view (seen i) files) (own i acts)) (without (is_others_job (targets_of rs) i) h)
      (views_show (targets_of rs) seen i files h are.places shows) run.way run.depfile run.target run.command run.answer (are.alone i r.0 within) in
      let all_added = whole i run.target run.command run.answer made.es made.adds in
      record {
        es = made.es;
        added = λ d _. rw (r.1 d ∙ sym (r.1 r.0)) all_added;
        none = λ past. absurd (omega arith);
        its = its_target i run.target run.command run.answer made.es all_added (own_target rs 0 i i r.0 (omega arith) within);
        shown = made.shows;
      })
      (λ past. record {
        es = [];
        added = λ d within. absurd (omega arith);
        none = λ _. refl;
        its = tt;
        shown = rw (are.beyond i past) (views_show (targets_of rs) seen i files h are.places shows);
      })
      (cases_lt i (length rs))

pub runs_side_by_side : RunsSideBySide
runs_side_by_side rs seen names files acts h are shows =
    let part = of_process rs seen names files acts h are shows in
    record {
      records = λ i. (part i).es;
      added = λ i. (part i).added;
      none = λ i. (part i).none;
      shown = λ shuffle order.
          stampers_side_by_side (targets_of rs) seen names files h acts shuffle are.targets are.places are.legal
          (each_all (IsOfJob (targets_of rs)) shuffle (λ i. rw (order i) (part i).its)) shows are.apart are.finds
          (λ i. rw (order i) (part i).shown);
    }
