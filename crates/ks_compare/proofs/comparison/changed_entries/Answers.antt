use Rattle.itertools.proofs.AdaptorLemmas.{items_from_whole_run, run_to_end, run_to_item}
use Rattle.ks_compare.proofs.Prelude.{rules, arith, common_steps, seen, YieldsList-from_rest, filter_map-append, [], refl, sym, ap, ap₂, subst, ◌∙◌, append-nil, IsTrue, filter_map, merge_join_by, AllByRecursion, AreChangedEntries, all_entries, name_of_symbol, is_name, borrowed_entry, borrowed_old_entry}
use Rattle.ks_compare.proofs.Merge.{by_name, name_of, every, taken, among, merged_entries}
use Rattle.ks_compare.proofs.comparison.changed_entries.Goals as goal

pub new-requires : goal.new-requires
new-requires c =
    let p = run_to_item _ _ c.loop-pair.yielded c.loop-pair.yielded_by c.in-Some.pair c.in-Some.ensures.steps in
    let (inner, from, runs) = c.merge_join_by-pair-items.ensures.runs in
    let (a, at_a, behind) = runs p (seen _) c.into_iter-pair-iterator.ensures.into_iter_gives in
    let (b, at_b, gives) = behind in
    let by = by_name borrowed_old_entry borrowed_entry in
    let (more, is) = (gives.1 by (λ x y r f' k. search rules)).2 [] [] (λ _. refl) (λ _. refl) in
    let every_legal = every borrowed_old_entry borrowed_entry (λ n. IsTrue (is_name n)) a.items b.items
    (taken borrowed_old_entry _ a _ (at_a ∙ from ∙ c.entries.ensures) (all_entries _ _ c.keeps_names.ensures))
    (taken borrowed_entry _ b _ (at_b ∙ c.merge_join_by-pair-items.ensures.second.0 ∙ c.entries-2.ensures) (all_entries _ _ (λ x s is. name_of_symbol _ x (c.keeps_configuration.ensures x s is).named))) in
    among (λ n. IsTrue (is_name n)) (name_of borrowed_old_entry borrowed_entry) c.loop-pair.yielded more c.in-Some.pair _ (sym c.in-Some-changed_name.ensures)
    (subst (λ l. AllByRecursion (λ n. IsTrue (is_name n)) (filter_map (name_of borrowed_old_entry borrowed_entry) l))
    (ap₂ (merge_join_by by) (sym (append-nil a.items)) (sym (append-nil b.items)) ∙ is) every_legal)

pub loop-pair-preserved-in_ok-push : goal.loop-pair-preserved-in_ok-push
loop-pair-preserved-in_ok-push c = grind (arith, common_steps, filter_map-append)

pub loop-pair-preserved : goal.loop-pair-preserved
loop-pair-preserved c = grind (arith, common_steps, filter_map-append, append-nil)

pub returns : goal.returns
returns c =
    let p = run_to_end _ _ c.loop-pair.yielded c.loop-pair.yielded_by c.in-None.ensures.steps in
    let (inner, from, runs) = c.merge_join_by-pair-items.ensures.runs in
    let (a, at_a, behind) = runs p (seen _) c.into_iter-pair-iterator.ensures.into_iter_gives in
    let (b, at_b, gives) = behind in
    let whole = gives.0 refl in
    let is = (gives.1 (by_name borrowed_old_entry borrowed_entry) (λ x y r f' k. search rules)).1 refl in
    subst (AreChangedEntries c.args.old.now.texts c.args.new.now.entries)
    (sym (c.loop-pair.invariant ∙ ap (filter_map (name_of borrowed_old_entry borrowed_entry)) is))
    (merged_entries borrowed_old_entry borrowed_entry _ _ a.items b.items
    (items_from_whole_run (YieldsList-from_rest _ (from ∙ c.entries.ensures)) a at_a whole.0)
    (items_from_whole_run (YieldsList-from_rest _ (c.merge_join_by-pair-items.ensures.second.0 ∙ c.entries-2.ensures)) b at_b whole.1))
