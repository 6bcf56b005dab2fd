-- Why what was touched is aged.
use Rattle.ks_commands.proofs.Prelude.{◌≡◌, ◌++◌, ◌<◌, ◌∙◌, ℕ, Bool, true, false, List, [], ◌∷◌, Some, None, Result, Ok, Err, ap, and_then, inl, inr, refl, sym, subst, fold, max, append-nil, arith, common_steps, true≢false, bytes_eq, bytes_eq-Decides, is_in, Files, EngineError, Explanation, History, LastRecord, Shows, IsAnswerOn, explaining, explanation_status, objects_of, status_unless_refused, statuses, targets_at, with_file, args_of, Querying, Part, FileState, Walks, rules, ⊤}
use Rattle.std.proofs.Common.{find}
use Rattle.std.proofs.lemmas.List.Folds.{list_any-append}
use Rattle.ks_engine.proofs.Querying.{stale_evaluated}
use Rattle.ks_engine.specs.declared.backdating.BackdateScope.{BackdateScope}
use Rattle.ks_engine.specs.declared.error.EngineError.TheVariants.{Device}
use Rattle.ks_engine.specs.declared.query.Limit.TheVariants.{First}
use Rattle.ks_engine.specs.declared.staleness.Verdict.{Verdict}
use Rattle.ks_requests.specs.declared.request.OutputFormat.TheVariants.{Text}
use Rattle.ks_engine.specs.Backdated.{IsBackdated, backdated_by, backdates}
use Rattle.ks_engine.specs.Asked.{reported}
use Rattle.ks_engine.specs.History.{Begun, Synced, Broken, Recorded, last_record}
use Rattle.ks_engine.specs.Staleness.{changed_since, found, suspect_since, verdict}
use Rattle.ks_commands.specs.Laws.{WhatChangedIsBackdated, WasTouched}
use Rattle.ks_commands.proofs.Walks.{below_two}

-- ---- what is aged stays so

grows : (which : BackdateScope) (files : Files) (o : List ℕ) (old : List (List ℕ)) (answer : Result Verdict EngineError) (new : List (List ℕ))
    → IsBackdated which files o old answer new → (more : List (List ℕ)) × (new ≡ old ++ more)
grows which files o old (Ok v) new is = (backdated_by which o v, is)
grows which files o old (Err Device) new (inl same) = ([], same ∙ sym (append-nil _))
grows which files o old (Err Device) new (inr is) = (o ∷ [], is.backdated)
grows which files o old (Err e) new same = ([], same ∙ sym (append-nil _))

is_in_more : (xs ys : List (List ℕ)) (o : List ℕ) → is_in xs o ≡ true → is_in (xs ++ ys) o ≡ true
is_in_more xs ys o among = list_any-append (bytes_eq o) xs ys ∙ rw among refl

stays : (which : BackdateScope) (files : Files) (p : List ℕ) (old : List (List ℕ)) (answer : Result Verdict EngineError) (new : List (List ℕ)) (o : List ℕ)
    → IsBackdated which files p old answer new → is_in old o ≡ true → is_in new o ≡ true
stays which files p old answer new o is among = let more = grows which files p old answer new is in rw more.1 (is_in_more old more.0 o among)

abbrev pub backdates_stale : BackdateScope → Files → Querying Explanation
backdates_stale which files = explaining ⊤ files (Some which) Text First (λ o answer. IsAnswerOn files o (reported answer))

pub stays_backdated : (which : BackdateScope) (files : Files) (first : FileState) (parts : List (Part Explanation)) (last : FileState) (o : List ℕ)
    → Walks (backdates_stale which files) first parts last → is_in first.backdated o ≡ true → is_in last.backdated o ≡ true
stays_backdated which files first [] last o walks among = subst (λ (s : FileState). is_in s.backdated o ≡ true) (sym walks) among
stays_backdated which files first (p ∷ ps) last o (next, step, later) among =
    stays_backdated which files next ps last o later (stays which files p.object first.backdated (reported p.answer) next.backdated o (step.backdated tt) among)

-- ---- what was touched is found, and ages

suspect_found : (h : History) (o x : List ℕ) → suspect_since h o x ≡ true → is_in (found h o) x ≡ true
suspect_found (Begun texts generation stamps) o x is = absurd cc
suspect_found (Synced title config past) o x is = grind (arith, common_steps, (suspect_found past o x))
suspect_found (Broken title config renewed past) o x is = grind (arith, common_steps, (suspect_found past o x))
suspect_found (Recorded p command names header past) o x is = grind (arith, common_steps, (suspect_found past o x))

changed_suspect : (h : History) (o x : List ℕ) → changed_since h o x ≡ true → suspect_since h o x ≡ true
changed_suspect (Begun texts generation stamps) o x is = absurd cc
changed_suspect (Synced title config past) o x is = grind (arith, common_steps, (changed_suspect past o x))
changed_suspect (Broken title config renewed past) o x is = grind (arith, common_steps, (changed_suspect past o x))
changed_suspect (Recorded p command names header past) o x is = grind (arith, common_steps, (changed_suspect past o x))

touched_suspect : (h : History) (o x : List ℕ) → WasTouched h o x → suspect_since h o x ≡ true
touched_suspect h o x (inl changed) = changed_suspect h o x changed
touched_suspect h o x (inr suspect) = suspect

backdates_found : (which : BackdateScope) (p : List ℕ → Bool) (xs : List (List ℕ)) (x : List ℕ) → is_in xs x ≡ true → p x ≡ true → backdates which (verdict (find p xs)) ≡ true
backdates_found which p [] x among is = absurd cc
backdates_found which p (y ∷ xs) x among is = grind (arith, common_steps, (bytes_eq-Decides x y), (backdates_found which p xs x))

recorded : (h : History) (o x : List ℕ) → is_in (found h o) x ≡ true → (r : LastRecord) × (last_record h o ≡ Some r)
recorded h o x among = (elim (last_record h o) as (λ last. last_record h o ≡ last → (r : LastRecord) × (last ≡ Some r)) [
  | None ↦ λ none. absurd (true≢false (sym among ∙ rw none refl))
  | Some r ↦ λ some. (r, refl)
]) refl

-- ---- the object itself

one_backdated : (which : BackdateScope) (files : Files) (h : History) (o x : List ℕ) (answer : Result Explanation EngineError) (old new : List (List ℕ)) → Shows files h
    → suspect_since h o x ≡ true → status_unless_refused explanation_status answer < 2 → IsAnswerOn files o (reported answer)
    → IsBackdated which files o old (reported answer) new → is_in new o ≡ true
one_backdated which files h o x (Err e) old new shows touched small is backdated = absurd (omega (arith, small))
one_backdated which files h o x (Ok e) old new shows touched small is backdated =
    let among = suspect_found h o x touched in
    let r = recorded h o x among in
    let evaluated = stale_evaluated files h o r.0 (Ok e.verdict) is shows r.1 in
    let stale : backdates which e.verdict ≡ true = search (rules, backdates_found, evaluated) in
    rw backdated (list_any-append (bytes_eq o) old (backdated_by which o e.verdict) ∙ grind (arith, common_steps, stale, (bytes_eq-Decides o o)))

touched_backdated : (which : BackdateScope) (files : Files) (h : History) (worst : ℕ) (first : FileState) (parts : List (Part Explanation)) (last : FileState) (o x : List ℕ)
    → Shows files h → fold max worst (statuses parts) < 2 → Walks (backdates_stale which files) first parts last → is_in (objects_of parts) o ≡ true
    → suspect_since h o x ≡ true → is_in last.backdated o ≡ true
touched_backdated which files h worst first [] last o x shows small walks among touched = absurd cc
touched_backdated which files h worst first (p ∷ ps) last o x shows small (next, step, later) among touched =
    let below = below_two (max worst p.status) (statuses ps) small in
    (elim (bytes_eq o p.object) as (λ b. bytes_eq o p.object ≡ b → is_in last.backdated o ≡ true) [
      | true ↦ λ same.
          let equal : o ≡ p.object = grind (arith, common_steps, (bytes_eq-Decides o p.object)) in
          stays_backdated which files next ps last o later
          (one_backdated which files h o x p.answer first.backdated next.backdated shows touched (omega (arith, below, step.reported.status))
          (rw equal (step.reported.answered tt)) (rw equal (step.backdated tt)))
      | false ↦ λ differs.
          touched_backdated which files h (max worst p.status) next ps last o x shows small later (sym (rw differs refl) ∙ among) touched
    ]) refl

pub what_changed_is_backdated : WhatChangedIsBackdated
what_changed_is_backdated which old new h targets outcome objects o x shows small (inl stopped) are among touched = absurd cc
what_changed_is_backdated which old new h targets outcome objects o x shows small (inr (asked, first, parts, read, walks, (same, reported_so), memory)) are among touched =
    let found : targets_at old.files targets ≡ Ok (with_file (args_of targets) read.from)
    = ap (λ r. and_then r (λ text. Ok (with_file (args_of targets) text))) (read.there tt) in
    let equal : asked ≡ objects = cc (found, are, read.all) in
    touched_backdated which old.files h 0 first parts new o x shows (subst (λ n. n < 2) reported_so.1 small) walks
    (subst (λ os. is_in os o ≡ true) (sym (same ∙ equal)) among) (touched_suspect h o x touched)
