use Rattle.ks_engine.proofs.Prelude.{[], List, ℕ, ◌≡◌, ◌+◌, arith, take_all, ◌∙◌, rules}
use Rattle.std.specs.Borrow.{Bor}
use Rattle.std.proofs.lemmas.List.{map_more}
use Rattle.ks_engine.proofs.Writes.{on_err}
use Rattle.ks_engine.proofs.MarkSteps.{marks_more, none_marked, some_marked}
use Rattle.ks_engine.proofs.Surveying.{counted_more}
use Rattle.ks_engine.specs.Costs.{one_if}
use Rattle.ks_engine.proofs.marking.mark_due.Goals as goal
use Rattle.ks_engine.proofs.marking.mark_due.Goals.{then-branch, else-branch}

abbrev nothing : Bor (List ℕ)
nothing = record { ref_ptr = (0, 0); now = [] }

pub loop-target-init : goal.loop-target-init
loop-target-init g c = record {
  marked = λ honest. none_marked c.args.which (g.T.Tree.files c.args.tree.now);
  cache = λ honest. c.with_seed-cache.ensures (g.T.Tree.files c.args.tree.now);
  few = search rules;
  counted = search rules;
  kept = search rules;
}

pub loop-target-preserved : goal.loop-target-preserved
loop-target-preserved g c =
    let was = c.loop-target.invariant in
    let more : c.if-branch.marked ≡ c.loop-target.marked + one_if c.in_ok-mark_if_due.field-0 = elim c.if-branch.branch [
      | then-branch w ↦ rw w.if-branch.true (omega (arith, w.marked-is))
      | else-branch w ↦ rw w.if-branch.false (omega (arith, w.marked-is))
    ] in
    record {
      marked = λ honest. rw (map_more (λ (t : Bor (List ℕ)). t.now) c.args.targets.now c.loop-target.target-index nothing c.loop-target-test.true, more)
          (marks_more _ _ _ _ _ _ _ _ (was.marked honest) (c.in_ok-mark_if_due.ensures.all honest));
      cache = c.mark_if_due.ensures.cache;
      few = elim c.if-branch.branch [ then-branch w ↦ omega (arith, was.few, w.marked-is) | else-branch w ↦ omega (arith, was.few, w.marked-is) ];
      counted = record { later = (counted_more g.T.Tree _ _ _ _ was.counted c.mark_if_due.ensures.counted).later; cause = λ never. absurd never };
      kept = c.mark_if_due.ensures.kept ∙ was.kept;
    }

pub returns-in_err-mark_if_due-clause-some : goal.returns-in_err-mark_if_due-clause-some
returns-in_err-mark_if_due-clause-some g c = λ honest.
    on_err c.from_residual.result _ (some_marked c.args.which c.args.targets.now c.loop-target.target-index nothing _ _ _ _ c.loop-target-test.true
    (c.loop-target.invariant.marked honest) (c.in_err-mark_if_due.ensures.some honest))

pub returns-in_err-mark_if_due-clause-counted : goal.returns-in_err-mark_if_due-clause-counted
returns-in_err-mark_if_due-clause-counted g c =
    let more = counted_more g.T.Tree _ _ _ _ c.loop-target.invariant.counted c.mark_if_due.ensures.counted in
    record { later = more.later; cause = λ device. more.cause (search rules) }

pub returns-in_err-mark_if_due-clause-kept : goal.returns-in_err-mark_if_due-clause-kept
returns-in_err-mark_if_due-clause-kept g c = c.mark_if_due.ensures.kept ∙ c.loop-target.invariant.kept

pub returns-clause-marked : goal.returns-clause-marked
returns-clause-marked g c = λ honest. rw (take_all c.loop-target.target-index c.args.targets.now c.loop-target-test.false) at (c.loop-target.invariant.marked honest)

pub returns-clause-counted : goal.returns-clause-counted
returns-clause-counted g c = record { later = c.loop-target.invariant.counted.later; cause = λ never. absurd (cc) }

pub returns-clause-kept : goal.returns-clause-kept
returns-clause-kept g c = c.loop-target.invariant.kept
