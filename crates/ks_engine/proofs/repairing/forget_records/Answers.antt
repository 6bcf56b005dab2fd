use Rattle.ks_engine.proofs.Prelude.{[], List, take_all, ℕ, ◌∙◌, rules}
use Rattle.std.specs.Borrow.{Bor}
use Rattle.std.proofs.lemmas.List.{map_more}
use Rattle.ks_engine.proofs.Writes.{on_err}
use Rattle.ks_engine.proofs.BeginningAgain.{forgets_more, none_forgets, some_of}
use Rattle.ks_engine.proofs.Surveying.{counted_more}
use Rattle.ks_engine.proofs.repairing.forget_records.Goals as goal

abbrev nothing : Bor (List ℕ)
nothing = record { ref_ptr = (0, 0); now = [] }

pub loop-target-init : goal.loop-target-init
loop-target-init g c = record { all = λ honest. none_forgets (g.T.Tree.files c.args.tree.now); counted = search rules; kept = search rules }

pub returns-in_err-forget_record-clause-some : goal.returns-in_err-forget_record-clause-some
returns-in_err-forget_record-clause-some g c = λ honest.
    on_err c.from_residual.result _ (some_of c.args.targets.now c.loop-target.target-index nothing _ _ _ c.loop-target-test.true
    (c.loop-target.invariant.all honest) (c.in_err-forget_record.ensures.some honest))

pub returns-in_err-forget_record-clause-counted : goal.returns-in_err-forget_record-clause-counted
returns-in_err-forget_record-clause-counted g c =
    let more = counted_more g.T.Tree _ _ _ _ c.loop-target.invariant.counted c.forget_record.ensures.counted in
    record { later = more.later; cause = λ device. more.cause (search rules) }

pub returns-in_err-forget_record-clause-kept : goal.returns-in_err-forget_record-clause-kept
returns-in_err-forget_record-clause-kept g c = c.forget_record.ensures.kept ∙ c.loop-target.invariant.kept

pub loop-target-preserved : goal.loop-target-preserved
loop-target-preserved g c =
    let before = c.loop-target.invariant in
    record {
      all = λ honest. rw (map_more (λ (t : Bor (List ℕ)). t.now) c.args.targets.now c.loop-target.target-index nothing c.loop-target-test.true)
          (forgets_more _ _ _ _ _ (before.all honest) (c.in_ok-forget_record.ensures.all honest));
      counted = record { later = (counted_more g.T.Tree _ _ _ _ before.counted c.forget_record.ensures.counted).later; cause = λ never. absurd never };
      kept = c.forget_record.ensures.kept ∙ before.kept;
    }

pub returns-clause-all : goal.returns-clause-all
returns-clause-all g c = λ honest. rw (take_all c.loop-target.target-index c.args.targets.now c.loop-target-test.false) at (c.loop-target.invariant.all honest)

pub returns-clause-counted : goal.returns-clause-counted
returns-clause-counted g c = record { later = c.loop-target.invariant.counted.later; cause = λ never. absurd (cc) }

pub returns-clause-kept : goal.returns-clause-kept
returns-clause-kept g c = c.loop-target.invariant.kept
