use Rattle.ks_commands.proofs.Prelude.{[], ◌∷◌, ◌++◌, ◌∙◌, subst, arith, seen_line, AreGiven, rules}
use Rattle.std.proofs.lemmas.List.{take_all}
use Rattle.ks_commands.proofs.Loading.{actions_begin, actions_next, kept_action, kept_next, none_kept}
use Rattle.ks_commands.proofs.batch.named_files.Goals as goal

pub loop-line-init : goal.loop-line-init
loop-line-init g c = search (rules, none_kept, actions_begin)

pub loop-line-preserved : goal.loop-line-preserved
loop-line-preserved g c =
    let before = c.loop-line.invariant in
    let after = c.in_ok-keep_files.ensures in
    let files = g.T.Tree.files c.args.tree.now in
    record {
      unchanged = λ honest. after.reads.unchanged honest ∙ before.unchanged honest;
      kept = after.reads.kept ∙ before.kept;
      later = omega (arith, after.reads.counted.later, before.later);
      given = λ honest. subst (λ f. AreGiven f c.keep_files.new.kept) (before.unchanged honest) (after.given honest);
      here = kept_next seen_line c.loop-line.kept c.keep_files.new.kept c.args.lines.now c.loop-line.line-index _ c.loop-line-test.true after.grows
          before.here after.here;
      before = λ honest.
          let given = subst (λ f. AreGiven f c.keep_files.new.kept) (before.unchanged honest) (after.given honest) in
          let next = kept_action files c.keep_files.new.kept _ given after.here in
          let front = before.before honest in (
            front.0 ++ next.0 ∷ [],
            actions_next files seen_line c.args.lines.now c.loop-line.line-index _ front.0 next.0 _ c.loop-line-test.true next.1
                front.1,
          );
    }

pub returns-clause-here : goal.returns-clause-here
returns-clause-here g c = search (rules, take_all)
