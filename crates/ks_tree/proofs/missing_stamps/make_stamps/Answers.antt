use Rattle.ks_tree.proofs.Prelude.{⊎_elim, ◌+◌, arith, common_steps, rules}
use Rattle.ks_tree.proofs.Touching.{made_more, made_same, on_err}
use Rattle.ks_tree.proofs.missing_stamps.make_stamps.Goals as goal

pub returns-in_err-make_stamp-clause-some : goal.returns-in_err-make_stamp-clause-some
returns-in_err-make_stamp-clause-some g c = λ honest. let was = c.loop-name.invariant.made honest in let others = c.make_stamp.ensures.others honest in
    on_err c.from_residual.result _ (⊎_elim
    (λ kept. (c.loop-name.name-index, search (rules, made_same)))
    (λ at. (c.loop-name.name-index + 1, grind (arith, common_steps, made_more)))
    (c.in_err-make_stamp.ensures.old_or_made honest))

pub loop-name-preserved : goal.loop-name-preserved
loop-name-preserved g c = record {
  made = λ honest. let was = c.loop-name.invariant.made honest in let at = c.in_ok-make_stamp.ensures.made honest in
      let others = c.make_stamp.ensures.others honest in grind (arith, common_steps, made_more);
  same = search rules;
  kept = search rules;
}
