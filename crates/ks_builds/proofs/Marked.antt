-- What marking leaves of a history, object by object.
use Rattle.ks_parallel.proofs.Prelude.{◌≡◌, ◌||◌, ℕ, List, [], ◌∷◌, Option, Some, None, Bool, true, false, cond, option_map, sym, ◌∙◌, ap, refl, subst, subst₂, inr, ⊎_elim, or_cases, or_left, or_right, true≢false, bytes_eq, bytes_eq-Decides, content, Files, HasNumber, command_path, stamp_path, auto_path, is_in, History, Begun, Synced, Broken, Recorded, LastRecord, Shows, last_record, without}
use Rattle.ks_engine.proofs.Prelude.{AutoConf, CommandFile, CommandTemporary, Header, Stamp, IsAnswer, Result, Ok, first_suspect, header_path, HasSameDefinitions, is_some}
unfoldable use Rattle.ks_engine.proofs.Prelude.{asked}
use Rattle.ks_engine.proofs.BeginningAgain.{same_target}
use Rattle.ks_engine.proofs.LowerLaws.{apart}
use Rattle.ks_engine.proofs.Querying.{answer_shown, asked_shown, stale_evaluated}
use Rattle.ks_engine.specs.declared.backdating.BackdateScope.{BackdateScope}
use Rattle.ks_engine.specs.declared.error.EngineError.{EngineError}
use Rattle.ks_engine.specs.declared.query.Limit.TheVariants.{First}
use Rattle.ks_engine.specs.declared.staleness.Verdict.{Verdict}
use Rattle.ks_engine.specs.declared.staleness.Verdict.TheVariants.{Fresh}
use Rattle.ks_engine.specs.Marks.{IsDueBy, IsMarked, MarksAll, due_by, marked_in, or_unnumbered}
use Rattle.ks_engine.specs.Staleness.{verdict}
use Rattle.ks_builds.proofs.Between.{lost_records_are_left_out}
use Rattle.ks_builds.specs.Between.{SaysTheSame}
use Rattle.ks_builds.specs.Marked.{GoesOnWithout, WhatIsNotMarkedIsSafe}

-- ---- histories without records

without_both : (f g : List ℕ → Bool) (h : History) → without g (without f h) ≡ without (λ o. f o || g o) h
without_both f g (Begun texts generation stamps) = refl
without_both f g (Synced title config past) = ap (λ h. Synced title config h) (without_both f g past)
without_both f g (Broken title config renewed past) = ap (λ h. Broken title config renewed h) (without_both f g past)
without_both f g (Recorded object command names header past) = (elim (f object) as (λ b. without g (cond b (without f past) (Recorded object command names header (without f past)))
    ≡ cond (b || g object) (without (λ o. f o || g o) past) (Recorded object command names header (without (λ o. f o || g o) past))) [
      | true ↦ without_both f g past
      | false ↦ ap (λ h. cond (g object) h (Recorded object command names header h)) (without_both f g past)
    ])

abbrev past_without : (List ℕ → Bool) → LastRecord → LastRecord
past_without p r = record r { past = without p r.past }

abbrev Left : (List ℕ → Bool) → History → List ℕ → Type 0
Left p h o = last_record (without p h) o ≡ option_map (past_without p) (last_record h o)

last_without : (p : List ℕ → Bool) (h : History) (o : List ℕ) → p o ≡ false → Left p h o
last_without p (Begun texts generation stamps) o kept = refl
last_without p (Synced title config past) o kept = last_without p past o kept
last_without p (Broken title config renewed past) o kept = last_without p past o kept
last_without p (Recorded object command names header past) o kept = (elim (p object) as (λ b. p object ≡ b → last_record (cond b (without p past) (Recorded object command names header (without p past))) o
    ≡ option_map (past_without p) (cond (bytes_eq object o) (Some (record { command = command; names = names; header = header; past = past })) (last_record past o))) [
      | true ↦ λ out.
          let other : bytes_eq object o ≡ false = (elim (bytes_eq object o) as (λ b. bytes_eq object o ≡ b → b ≡ false) [
            | true ↦ λ same. absurd (true≢false (sym out ∙ ap p ((bytes_eq-Decides object o).0 same) ∙ kept))
            | false ↦ λ differs. refl
          ]) refl in
          rw other (last_without p past o kept)
      | false ↦ λ stays. (elim (bytes_eq object o) as (λ b. cond b (Some (record { command = command; names = names; header = header; past = without p past })) (last_record (without p past) o)
          ≡ option_map (past_without p) (cond b (Some (record { command = command; names = names; header = header; past = past })) (last_record past o))) [
            | true ↦ refl
            | false ↦ last_without p past o kept
          ])
    ]) refl

no_record_left : (h : History) → without (λ o. false) h ≡ h
no_record_left (Begun texts generation stamps) = refl
no_record_left (Synced title config past) = ap (λ h. Synced title config h) (no_record_left past)
no_record_left (Broken title config renewed past) = ap (λ h. Broken title config renewed h) (no_record_left past)
no_record_left (Recorded object command names header past) = ap (λ h. Recorded object command names header h) (no_record_left past)

-- ---- one mark

abbrev is_that : List ℕ → List ℕ → Bool
is_that o p = bytes_eq p o

module _ (old new : Files) (o path : List ℕ) (is : IsMarked old new o path) where
  same_file : (p : List ℕ) → is_that o p ≡ false → content new (command_path p) ≡ content old (command_path p)
  same_file p other = is.others (command_path p) (apart (CommandFile p) (CommandTemporary o) tt tt (λ e. cc))
      (λ same. true≢false (sym ((bytes_eq-Decides p o).1 (same_target p o same)) ∙ other))

  same_header : content new header_path ≡ content old header_path
  same_header = is.others header_path (apart Header (CommandTemporary o) tt tt (λ e. cc)) (apart Header (CommandFile o) tt tt (λ e. cc))

  says : SaysTheSame (is_that o) old new
  says = record {
    auto = is.others auto_path (apart AutoConf (CommandTemporary o) tt tt (λ e. cc)) (apart AutoConf (CommandFile o) tt tt (λ e. cc));
    header = same_header;
    stamps = λ x n name has. subst (λ f. HasNumber f n)
        (sym (is.others (stamp_path x) (apart (Stamp x) (CommandTemporary o) name tt (λ e. cc)) (apart (Stamp x) (CommandFile o) name tt (λ e. cc)))) has;
    commands = λ p r b other was is_file. (b, same_file p other ∙ was, is_file);
  }

-- ---- what isn't due

or_false : (a b : Bool) → a || b ≡ false → (a ≡ false) × (b ≡ false)
or_false false false is = (refl, refl)
or_false false true is = absurd cc
or_false true b is = absurd cc

no_cause : (which : BackdateScope) (s : Option (List ℕ)) → None ≡ due_by which (verdict s) → s ≡ None
no_cause which None is = refl
no_cause which (Some x) is = absurd cc

fresh_by : (which : BackdateScope) (answer : Result Verdict EngineError) (s : Option (List ℕ)) → answer ≡ Ok (verdict s) → None ≡ due_by which (or_unnumbered answer) → answer ≡ Ok Fresh
fresh_by which answer s is due = let none = no_cause which s (due ∙ ap (λ a. due_by which (or_unnumbered a)) is) in is ∙ ap (λ t. Ok (verdict t)) none

-- what is answered of a recorded object
answered : (files : Files) (h : History) (o : List ℕ) (r : LastRecord) (answer : Result Verdict EngineError) → Shows files h → last_record h o ≡ Some r
    → IsAnswer files (asked files o) answer → answer ≡ Ok (verdict (first_suspect h o))
answered files h o r answer shows last is =
    let stated = rw (asked_shown files h o r shows last) at is in
    stated.2 ∙ answer_shown First files h o r stated.0 shows last stated.1

-- Without a command file it would have no record.
not_due_safe : (which : BackdateScope) (files : Files) (h : History) (o : List ℕ) (r : LastRecord) → Shows files h → last_record h o ≡ Some r → IsDueBy which files o None
    → HasSameDefinitions files r
not_due_safe which files h o r shows last (answer, is, due) =
    let there : is_some (content files (command_path o)) ≡ true = ap is_some (shows.commands o r last).1 in
    let same = answered files h o r answer shows last is in
    (stale_evaluated files h o r answer (inr is) shows last).safe (fresh_by which answer (first_suspect h o) same (rw there at due))

-- ---- one object after the other

module _ (which : BackdateScope) (o : List ℕ) (os : List (List ℕ)) (old between new : Files) (h : History) (shows : Shows old h) where
  -- one that isn't due
  left : IsDueBy which old o None → GoesOnWithout os old new h → GoesOnWithout (o ∷ os) old new h
  left due rest = record {
    gone = rest.gone;
    marks = λ p out. let was = rest.marks p out in (or_right _ _ was.0, was.1, was.2, was.3);
    kept = rest.kept;
    shows = rest.shows;
    safe = λ p r among stays last. ⊎_elim
        (λ same. (let here : p ≡ o = (bytes_eq-Decides p o).0 same in
        not_due_safe which old h p r shows last (subst (λ q. IsDueBy which old q None) (sym here) due)))
        (λ later. rest.safe p r later stays last)
        (or_cases (bytes_eq p o) (is_in os p) among);
  }

  after : (path : List ℕ) → IsMarked old between o path → GoesOnWithout os between new (without (is_that o) h) → GoesOnWithout (o ∷ os) old new h
  after path is rest = record {
    gone = λ p. is_that o p || rest.gone p;
    marks = λ p out. (elim (rest.gone p) as (λ b. rest.gone p ≡ b → (is_in (o ∷ os) p ≡ true) × (path : List ℕ) × (before : Files)
        × (content new (command_path p) ≡ marked_in p path (content before (command_path p)))) [
          | true ↦ λ later. (let was = rest.marks p later in (or_right _ _ was.0, was.1, was.2, was.3))
          | false ↦ λ none. (let that : is_that o p ≡ true = ⊎_elim (λ same. same) (λ later. absurd (true≢false (sym later ∙ none))) (or_cases (is_that o p) (rest.gone p) out) in
              let here : p ≡ o = (bytes_eq-Decides p o).0 that in
              (or_left _ _ that, path, old, rest.kept p none ∙ rw here is.text))
        ]) refl;
    kept = λ p stays. (let both = or_false (is_that o p) (rest.gone p) stays in rest.kept p both.1 ∙ same_file old between o path is p both.0);
    shows = subst (Shows new) (without_both (is_that o) rest.gone h) rest.shows;
    safe = λ p r among stays last.
        let both = or_false (is_that o p) (rest.gone p) stays in
        let later = ⊎_elim (λ same. absurd (true≢false (sym same ∙ both.0))) (λ later. later) (or_cases (bytes_eq p o) (is_in os p) among) in
        let since = rest.safe p (past_without (is_that o) r) later both.1 (last_without (is_that o) h p both.0 ∙ ap (option_map (past_without (is_that o))) last) in
        λ x named. (let was = since x named in (was.0, sym (same_header old between o path is) ∙ was.1, was.2));
  }

marks_shown : (which : BackdateScope) (objects : List (List ℕ)) (old new : Files) (count : ℕ) (h : History) → Shows old h → MarksAll which objects old new count
    → GoesOnWithout objects old new h
marks_shown which [] old new count h shows (same, none) = record {
  gone = λ o. false;
  marks = λ o out. absurd (true≢false (sym out));
  kept = λ o stays. ap (λ f. content f (command_path o)) same;
  shows = subst₂ Shows (sym same) (sym (no_record_left h)) shows;
  safe = λ o r among. absurd (true≢false (sym among));
}
marks_shown which (o ∷ os) old new count h shows (between, done, later, (None, due, same, is), rest, sum) =
    left which o os old between new h shows due (subst (λ f. GoesOnWithout os f new h) same (marks_shown which os between new later h (subst (λ f. Shows f h) (sym same) shows) rest))
marks_shown which (o ∷ os) old new count h shows (between, done, later, (Some path, due, marks, is), rest, sum) =
    after which o os old between new h shows path marks
    (marks_shown which os between new later (without (is_that o) h) (lost_records_are_left_out h (is_that o) old between shows (says old between o path marks)) rest)

pub what_is_not_marked_is_safe : WhatIsNotMarkedIsSafe
what_is_not_marked_is_safe = marks_shown
