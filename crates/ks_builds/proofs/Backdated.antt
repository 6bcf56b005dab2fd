-- What is reported fresh, and what `age` leaves alone.
use Rattle.ks_commands.proofs.Prelude.{◌≡◌, ◌⊎◌, ◌<◌, ◌∙◌, ℕ, true, false, List, [], ◌∷◌, Option, Some, None, Result, Ok, Err, inl, inr, refl, sym, subst, max, arith, common_steps, true≢false, bytes_eq, bytes_eq-Decides, is_in, Files, EngineError, Explanation, History, LastRecord, Shows, IsAnswerOn, IsAbortedAnswer, explanation_status, status_unless_refused, statuses, objects_of, targets_at, with_file, args_of, and_then, fold, ap, Part, FileState, Walks, content, CommandRecord, last_record, command_file, names_placed}
use Rattle.ks_engine.proofs.Prelude.{IsAnswer, asked_of, asked_since, reading, first_suspect, is_target, cond, HasSameDefinitions}
unfoldable use Rattle.ks_engine.proofs.Prelude.{asked, command_path}
use Rattle.std.proofs.lemmas.List.Folds.{list_any-append}
use Rattle.ks_engine.proofs.Querying.{stale_evaluated}
use Rattle.ks_engine.specs.declared.backdating.BackdateScope.{BackdateScope}
use Rattle.ks_engine.specs.declared.backdating.BackdateScope.TheVariants.{Unrecorded}
use Rattle.ks_engine.specs.declared.staleness.Verdict.{Verdict}
use Rattle.ks_engine.specs.declared.staleness.Verdict.TheVariants.{Fresh, Changed, NoCommandFile, Unnumbered, Ahead}
use Rattle.ks_engine.specs.Backdated.{IsBackdated, backdated_by, backdates}
use Rattle.ks_engine.specs.Asked.{AtOnce, reported}
use Rattle.ks_engine.specs.declared.error.EngineError.TheVariants.{BadPath}
use Rattle.ks_engine.specs.Staleness.{verdict}
use Rattle.ks_commands.proofs.BackdatingLemmas.{backdates_stale, stays_backdated}
use Rattle.ks_commands.proofs.Walks.{below_two}
use Rattle.ks_builds.specs.Builds.{BuildsAreRight, HasBackdated, HasTrueRecords, IsLeft, WhatIsNotBackdatedIsFresh, WhatIsNotBackdatedIsSafe}

-- ---- what was answered of an object that was left alone

-- a verdict by the files that ages nothing
pub record LeftAlone (which : BackdateScope) (files : Files) (o : List ℕ) : Type 0 where
  pub stated : Verdict
  pub answer : IsAnswerOn files o (Ok stated)
  pub none : backdates which stated ≡ false

one_left : (which : BackdateScope) (files : Files) (o : List ℕ) (answer : Result Explanation EngineError) (old next : List (List ℕ))
    → status_unless_refused explanation_status answer < 2 → IsAnswerOn files o (reported answer) → IsBackdated which files o old (reported answer) next
    → is_in next o ≡ false → LeftAlone which files o
one_left which files o (Err e) old next small is backdated none = absurd (omega (arith, small))
one_left which files o (Ok e) old next small is backdated none = (elim (backdates which e.verdict) as (λ b. backdates which e.verdict ≡ b → LeftAlone which files o) [
  | false ↦ λ out. record { stated = e.verdict; answer = is; none = out }
  | true ↦ λ stale.
      let among : is_in next o ≡ true = rw backdated (list_any-append (bytes_eq o) old (backdated_by which o e.verdict) ∙ grind (arith, common_steps, stale, (bytes_eq-Decides o o))) in
      absurd (true≢false (sym among ∙ none))
]) refl

each_left : (which : BackdateScope) (files : Files) (worst : ℕ) (first : FileState) (parts : List (Part Explanation)) (last : FileState) (o : List ℕ)
    → fold max worst (statuses parts) < 2 → Walks (backdates_stale which files) first parts last → is_in (objects_of parts) o ≡ true → is_in last.backdated o ≡ false
    → LeftAlone which files o
each_left which files worst first [] last o small walks among none = absurd cc
each_left which files worst first (p ∷ ps) last o small (next, step, later) among none =
    let below = below_two (max worst p.status) (statuses ps) small in
    (elim (bytes_eq o p.object) as (λ b. bytes_eq o p.object ≡ b → LeftAlone which files o) [
      | true ↦ λ same.
          let equal : o ≡ p.object = grind (arith, common_steps, (bytes_eq-Decides o p.object)) in
          let out : is_in next.backdated o ≡ false = (elim (is_in next.backdated o) as (λ b. is_in next.backdated o ≡ b → b ≡ false) [
            | false ↦ λ e. refl
            | true ↦ λ e. absurd (true≢false (sym (stays_backdated which files next ps last o later e) ∙ none))
          ]) refl in
          one_left which files o p.answer first.backdated next.backdated (omega (arith, below, step.reported.status)) (rw equal (step.reported.answered tt))
          (rw equal (step.backdated tt)) out
      | false ↦ λ differs.
          each_left which files (max worst p.status) next ps last o small later (sym (rw differs refl) ∙ among) none
    ]) refl

-- ---- and what it says

fresh_by : (which : BackdateScope) (s : Option (List ℕ)) (v : Verdict) → ◌≡◌ {A = Result Verdict EngineError} (Ok v) (Ok (verdict s)) → backdates which v ≡ false → v ≡ Fresh
fresh_by which None v same out = cc
fresh_by which (Some x) v same out = let equal : v ≡ Changed x = cc in absurd (true≢false (rw equal at out))

fresh_left : (which : BackdateScope) (files : Files) (h : History) (o : List ℕ) (r : LastRecord) → Shows files h → last_record h o ≡ Some r → LeftAlone which files o
    → HasSameDefinitions files r
fresh_left which files h o r shows last left =
    let evaluated = stale_evaluated files h o r (Ok left.stated) left.answer shows last in
    evaluated.safe (ap (λ v. Ok v) (found evaluated.suspect))
  where
    found : IsAbortedAnswer {A = Verdict} (Ok left.stated) ⊎ (◌≡◌ {A = Result Verdict EngineError} (Ok left.stated) (Ok (verdict (first_suspect h o)))) → left.stated ≡ Fresh
    found (inl given) = absurd given
    found (inr is) = fresh_by which (first_suspect h o) left.stated is left.none

-- of an object among those that were asked about
left_alone : (which : BackdateScope) (old new : FileState) (o : List ℕ) (left : IsLeft which old new o) → HasBackdated which old left.targets left.outcome new
    → LeftAlone which old.files o
left_alone which old new o left (inl stopped) = absurd cc
left_alone which old new o left (inr (asked, first, parts, read, walks, (same, reported_so), memory)) =
    let found : targets_at old.files left.targets ≡ Ok (with_file (args_of left.targets) read.from)
    = ap (λ r. and_then r (λ text. Ok (with_file (args_of left.targets) text))) (read.there tt) in
    let equal : asked ≡ left.objects = cc (found, left.listed, read.all) in
    each_left which old.files 0 first parts new o (subst (λ n. n < 2) reported_so.1 left.answered) walks
    (subst (λ os. is_in os o ≡ true) (sym (same ∙ equal)) left.among) left.alone

pub what_is_not_backdated_is_safe : WhatIsNotBackdatedIsSafe
what_is_not_backdated_is_safe which old new h o r shows left last = fresh_left which old.files h o r shows last (left_alone which old new o left left.asked)

-- ---- an object that is called fresh has a command file with a number

fresh_since : (files : Files) (names : List (List ℕ × List ℕ)) (g : Option ℕ) → IsAnswer files (asked_since files names g) (Ok Fresh) → (n : ℕ) × (g ≡ Some n)
fresh_since files names None is = absurd cc
fresh_since files names (Some n) is = (n, refl)

abbrev pub Read : Type 0
Read = Result (Option CommandRecord) EngineError

pub fresh_of : (files : Files) (r : Read) → IsAnswer files (asked_of files r) (Ok Fresh)
    → (file : CommandRecord) × (n : ℕ) × (r ≡ Ok (Some file)) × (file.generation ≡ Some n)
fresh_of files (Err e) is = absurd cc
fresh_of files (Ok None) is = absurd cc
fresh_of files (Ok (Some file)) is = let n = fresh_since files (names_placed file) file.generation is in (file, n.0, refl, n.1)

pub read_of : (o : List ℕ) (c : Option (List ℕ)) (file : CommandRecord) → ◌≡◌ {A = Read} (command_file o c) (Ok (Some file))
    → (b : List ℕ) × (c ≡ Some b) × (reading b ≡ Ok file)
read_of o None file is = absurd cc
read_of o (Some b) file is = (b, refl, grind arith)

pub fresh_asked : (files : Files) (o : List ℕ) → IsAnswer files (asked files o) (Ok Fresh)
    → IsAnswer files (asked_of files (command_file o (content files (command_path o)))) (Ok Fresh)
unfolding asked
fresh_asked files o is = (elim (is_target o) as (λ b. IsAnswer files (cond b (asked_of files (command_file o (content files (command_path o)))) (AtOnce (Err (BadPath 0)))) (Ok Fresh)
    → IsAnswer files (asked_of files (command_file o (content files (command_path o)))) (Ok Fresh)) [
      | true ↦ λ is. is
      | false ↦ λ is. absurd cc
    ]) is

only_fresh : (v : Verdict) → backdates Unrecorded v ≡ false → v ≡ Fresh
only_fresh Fresh out = refl
only_fresh (Changed x) out = absurd cc
only_fresh Ahead out = absurd cc
only_fresh NoCommandFile out = absurd cc
only_fresh Unnumbered out = absurd cc

pub what_is_not_backdated_is_fresh : WhatIsNotBackdatedIsFresh
what_is_not_backdated_is_fresh old new o left =
    let alone = left_alone Unrecorded old new o left left.asked in
    subst (λ v. IsAnswerOn old.files o (Ok v)) (only_fresh alone.stated alone.none) alone.answer

recorded_as : (files : Files) (h : History) (o : List ℕ) → HasTrueRecords files h → IsAnswerOn files o (Ok Fresh) → (r : LastRecord) × (last_record h o ≡ Some r)
recorded_as files h o true_records (inl given) = absurd given
recorded_as files h o true_records (inr is) =
    let file = fresh_of files (command_file o (content files (command_path o))) (fresh_asked files o is) in
    let text = read_of o (content files (command_path o)) file.0 file.2 in
    true_records o text.0 file.0 file.1 text.1 text.2 file.3

pub builds_are_right : BuildsAreRight
builds_are_right files h o shows true_records fresh =
    let r = recorded_as files h o true_records fresh in
    (r.0, r.1, (stale_evaluated files h o r.0 (Ok Fresh) fresh shows r.1).safe refl)
