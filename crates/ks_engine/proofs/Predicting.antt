-- The tree that a synchronisation would leave, what is answered over it, and a name among rising ones.
use Rattle.ks_engine.proofs.Prelude.{list_any_none, exact_bytes, ◌≡◌, ◌⊎◌, inr, ℕ, ◌+◌, ◌<◌, ◌^◌, ◌≢◌, List, [], ◌∷◌, Option, Some, None, Result, Ok, Err, true, false, sym, ◌∙◌, refl, arith, length, get_or, IsTrue, bytes_eq, nat_cmp, Less-from_sorted, is_eq-slice_cmp, or_left, or_right, false_from_ne_true, searchable_from_sorted, bytes_eq-Decides, tied_itself, slice_cmp, nat_list_cmp_total, insert, get-insert, remove, get-remove, IsStrictlySortedBy, IsSearchInRange, IsBinarySearchResult, is_ok, Ordering, Equal, is_name, is_in, header_path, auto_text, header_text, Files, content, SameBut, SameButBoth, auto_path, auto_temporary, header_temporary, stamp_path, stamp_temporary, left_over, AutoConf, AutoTemporary, Header, HeaderTemporary, Stamp, StampTemporary, stamp_text, Touches, EngineError, Impact, Explanation, Planned, Query, Stale, Why, Predicted, Verdict, Report, IsAbortedAnswer, OldAuto, old_auto, Plan, AreLegalChanges, SyncDone, IsSynced, IsExplained, IsPlanned, IsImpactOf, IsAfter, IsAnswerAfter, IsAnswerOn, IsAnswerTo, EvaluatesAfter, IsSeen, limit_of, Source, rules, generation_fits, list_any_at, both_ways, ⊎_elim, cases_Bool}
use Rattle.ks_engine.proofs.LowerLaws.{generation_back, accepted, apart}
use Rattle.ks_engine.proofs.Reading.{last_some, ok_ok}
use Rattle.ks_engine.proofs.Writes.{cleared, finished, header_stays}
use Rattle.ks_engine.proofs.Steps.{plan_stands, plan_facts, command_kept, synced_shows}
use Rattle.ks_engine.proofs.Querying.{stale_evaluated, reported_answered, verdict_answered}
use Rattle.ks_engine.proofs.Beginnings.{one_plan}

-- ---- a name among rising ones

abbrev pub order : List ℕ → List ℕ → Ordering
order = slice_cmp nat_cmp

not_tied : (x y : List ℕ) → (order y x ≡ Equal → ⊥) → bytes_eq x y ≡ false
not_tied x y other = search (rules, false_from_ne_true, bytes_eq-Decides, tied_itself, nat_list_cmp_total)

-- a search of rising names finds those that are among them
pub search_reports : (q : List ℕ) (names : List (List ℕ)) (r : Result ℕ ℕ) → IsSearchInRange r (length names)
    → IsBinarySearchResult (λ n. order n q) names r → IsStrictlySortedBy order names → is_ok r ≡ is_in names q
search_reports q names (Ok i) range at rising
    = sym (list_any_at (bytes_eq q) names i q range ((bytes_eq-Decides q (get_or names i q)).1 (sym (exact_bytes _ _ (at q)))))
search_reports q names (Err i) range parted rising =
    let (below, above) = parted (searchable_from_sorted nat_list_cmp_total (λ n. n) names q (λ k d le lt.
    rw (nat_list_cmp_total.antisymm (get_or names (k + 1) d) (get_or names k d), Less-from_sorted order names k (k + 1) d rising (omega arith) lt) refl)) in
    sym (list_any_none (bytes_eq q) names (λ k d lt. not_tied q (get_or names k d) (grind (arith, (below k d), (above k d)))))

-- ---- a tree that it leaves

put_here : (files : Files) (p b : List ℕ) → content (insert files p b) p ≡ Some b
put_here files p b = rw (get-insert nat_list_cmp_total files p b p, tied_itself nat_list_cmp_total p) refl

put_elsewhere : (files : Files) (p b : List ℕ) → SameBut p files (insert files p b)
put_elsewhere files p b q other = get-insert nat_list_cmp_total files p b q ∙ grind (arith, (is_eq-slice_cmp q p), (bytes_eq-Decides q p).0)

gone_here : (files : Files) (p : List ℕ) → content (remove files p) p ≡ None
gone_here files p = rw (get-remove nat_list_cmp_total files p p, tied_itself nat_list_cmp_total p) refl

gone_elsewhere : (files : Files) (p : List ℕ) → SameBut p files (remove files p)
gone_elsewhere files p q other = get-remove nat_list_cmp_total files p q ∙ grind (arith, (is_eq-slice_cmp q p), (bytes_eq-Decides q p).0)

-- a file was written at a temporary path and moved to its own
module _ (files : Files) (t p b : List ℕ) where
  replaced : Files
  replaced = insert (remove files t) p b

  replaced_here : content replaced p ≡ Some b
  unfolding replaced
  replaced_here = put_here (remove files t) p b

  replaced_gone : t ≢ p → content replaced t ≡ None
  unfolding replaced
  replaced_gone differ = put_elsewhere (remove files t) p b t differ ∙ gone_here files t

  replaced_elsewhere : SameButBoth t p files replaced
  unfolding replaced
  replaced_elsewhere q temporary other = put_elsewhere (remove files t) p b q other ∙ gone_elsewhere files t q temporary

stamped : List (List ℕ) → ℕ → Files → Files
stamped [] g files = files
stamped (x ∷ xs) g files = replaced (stamped xs g files) stamp_temporary (stamp_path x) (stamp_text g)

among_itself : (x : List ℕ) (xs : List (List ℕ)) → is_in (x ∷ xs) x ≡ true
among_itself x xs = or_left (bytes_eq x x) (is_in xs x) ((bytes_eq-Decides x x).1 refl)

touched : (files : Files) (g : ℕ) (xs : List (List ℕ)) → ((x : List ℕ) → is_in xs x ≡ true → IsTrue (is_name x)) → Touches xs g files (stamped xs g files)
unfolding stamped
touched files g [] legal = record { stamps = λ x name. refl; others = λ q temporary other. refl }
touched files g (x ∷ xs) legal =
    let before = touched files g xs (λ y among. legal y (or_right (bytes_eq y x) _ among)) in
    let is_x = among_itself x xs in
    let here = replaced_here (stamped xs g files) stamp_temporary (stamp_path x) (stamp_text g) in
    let elsewhere = replaced_elsewhere (stamped xs g files) stamp_temporary (stamp_path x) (stamp_text g) in
    record {
      stamps = λ y name. ⊎_elim
          (λ same. let at = (bytes_eq-Decides y x).0 same in rw (same, at) here)
          (λ other. rw other (elsewhere (stamp_path y) (apart (Stamp y) StampTemporary name tt (λ e. cc)) (apart (Stamp y) (Stamp x) name (legal x is_x) (λ e. both_ways _ other ((bytes_eq-Decides y x).1 cc)))
          ∙ before.stamps y name))
          (cases_Bool (bytes_eq y x));
      others = λ q temporary other. elsewhere q temporary (other x is_x) ∙ before.others q temporary (λ y among. other y (or_right (bytes_eq y x) _ among));
    }

stamps_cleared : (files : Files) (g : ℕ) (xs : List (List ℕ)) → ((x : List ℕ) → is_in xs x ≡ true → IsTrue (is_name x))
    → content (stamped xs g files) stamp_temporary ≡ left_over xs (content files stamp_temporary)
unfolding stamped
stamps_cleared files g [] legal = refl
stamps_cleared files g (x ∷ xs) legal = replaced_gone (stamped xs g files) stamp_temporary (stamp_path x) (stamp_text g)
    (apart StampTemporary (Stamp x) tt (legal x (among_itself x xs)) (λ e. cc))

leave : Files → Plan → List (List ℕ) → Files
leave files plan names =
    replaced (replaced (stamped names (plan.generation + 1) files) header_temporary header_path (header_text plan.title plan.config))
    auto_temporary auto_path (auto_text plan.title plan.config (plan.generation + 1))

done_by : (files : Files) (plan : Plan) (names : List (List ℕ)) → AreLegalChanges plan.old plan.config names → SyncDone files (leave files plan names) plan names
unfolding leave
done_by files plan names are =
    let g = plan.generation + 1 in
    let one = stamped names g files in
    let header = header_text plan.title plan.config in
    let auto = auto_text plan.title plan.config g in
    let two = replaced one header_temporary header_path header in
    let here = replaced_here two auto_temporary auto_path auto in
    let made = replaced_here one header_temporary header_path header in
    let others = replaced_elsewhere one header_temporary header_path header in
    let others_then = replaced_elsewhere two auto_temporary auto_path auto in
    record {
      leaves = finished files plan names are g one two _ refl (touched files g names are.legal) others made others_then (inr here);
      header = header_stays files plan names are two _ others_then ∙ made;
      auto = here;
      cleared = cleared files one two _ names (stamps_cleared files g names are.legal) others
          (replaced_gone one header_temporary header_path header (apart HeaderTemporary Header tt tt (λ e. cc))) others_then
          (replaced_gone two auto_temporary auto_path auto (apart AutoTemporary AutoConf tt tt (λ e. cc)));
    }

pub impact_reported : (files : Files) (k : Source) (planned : Planned) → IsPlanned files k planned
    → IsImpactOf files k (record { report = planned.report })
impact_reported files k planned is = (leave files is.0 planned.report.touched.items, search (rules, done_by))

-- ---- what stands in each such tree

old_fits : (file : Option (List ℕ)) (auto : OldAuto) → old_auto file ≡ Ok auto → auto.generation < 2 ^ 64
unfolding old_auto
old_fits file auto is = grind (arith, generation_fits)

is_after : (files after : Files) (k : Source) (impact : Impact) (report : Report) → IsImpactOf files k impact → IsSynced files after k report
    → IsAfter files after impact.report
is_after files after k impact report reported synced =
    let plan = synced.plan in
    let same : reported.1.plan ≡ plan = ok_ok _ _ (one_plan files k (Ok reported.1.plan) (Ok plan) reported.1.planned synced.planned) in
    let (auto, read, facts) = plan_stands files k plan synced.planned in
    let fits = old_fits (content files auto_path) auto read in
    let small : plan.generation + 1 < 2 ^ 64 = grind (arith, facts) in
    let g : impact.report.generation ≡ plan.generation + 1 = rw (reported.1.generation, same) refl in
    let changed = rw same at reported.1.changed in
    let agree : (x : List ℕ) → is_in report.touched.items x ≡ is_in impact.report.touched.items x = λ x. synced.changed.are.each x ∙ sym (changed.are.each x) in
    record {
      rising = reported.1.changed.are.rising;
      generation = rw g (last_some (content after auto_path) _ (plan.generation + 1) synced.done.auto
          (accepted plan.title plan.config (plan.generation + 1) facts.source.title facts.source.config small facts.small)
          (sym (generation_back plan.title plan.config (plan.generation + 1) facts.source.title facts.source.config small)) (λ e. omega arith));
      touched = λ x name among. rw (g, synced.done.leaves.stamps x name, agree x, among) (inr (refl, small));
      others = λ x name none. rw (synced.done.leaves.stamps x name, agree x, none) refl;
      commands = command_kept files after plan report.touched.items report.touched.items synced.changed synced.done.leaves;
    }

-- ---- what a question is answered

-- What is answered over all that stands so is answered over each tree that it leaves.
after_sync : (files : Files) (k : Source) (o : List ℕ) (impact : Impact) (answer : Result Verdict EngineError)
    → ((after : Files) → IsAfter files after impact.report → IsAnswerOn after o answer) → IsImpactOf files k impact → IsAnswerAfter files k o answer
after_sync files k o impact answer stated reported = λ after report synced. stated after (is_after files after k impact report reported synced)

pub impact_evaluated : (files : Files) (k : Source) (o : List ℕ) (answer : Result Verdict EngineError) → IsAnswerAfter files k o answer
    → EvaluatesAfter files k o answer
impact_evaluated files k o answer stated = λ after report synced h r shows last.
    let facts = plan_facts files h k synced.plan shows synced.planned in
    let names = report.touched.items in
    let shown = synced_shows files after h synced.plan names names shows facts synced.changed synced.done.leaves refl synced.done.header synced.done.auto in
    stale_evaluated after _ o r answer (stated after report synced) shown last

pub answers_to : (q : Query) (files : Files) (o : List ℕ) (answer : Result Explanation EngineError)
    → ((after : Files) → IsSeen q files after → IsAbortedAnswer answer ⊎ IsExplained (limit_of q) after o answer) → IsAnswerTo q files o answer
answers_to Stale files o answer stated = search (rules, reported_answered)
answers_to Why files o answer stated = search (rules, verdict_answered)
answers_to (Predicted impact) files o answer stated = search (rules, after_sync, reported_answered)
