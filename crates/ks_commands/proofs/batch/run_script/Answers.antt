use Rattle.ks_commands.proofs.Prelude.{inr, Ok, sym, ap, ◌∙◌, ◌≤◌, map, arith, err_from_is_err_and, action, state, RunsOn, of_engine, rules}
use Rattle.ks_commands.proofs.Continuing.{file_run_follows, runs_all, script_missing, script_stopped, script_there}
use Rattle.ks_commands.proofs.batch.run_script.Goals as goal

pub returns-in_err-script-clause-ran : goal.returns-in_err-script-clause-ran
returns-in_err-script-clause-ran g c = search (rules, err_from_is_err_and, script_missing)

pub returns-in_err-lines-clause-ran : goal.returns-in_err-lines-clause-ran
returns-in_err-lines-clause-ran g c = search (rules, err_from_is_err_and, script_stopped)

pub returns-clause-ran : goal.returns-clause-ran
returns-clause-ran g c =
    let actions = map action c.in_ok-commands.commands.items in
    let are = ap (map action) c.deref-2.ensures.value in
    let honest = g.T.Tree.is_honest in
    let later : g.T.Tree.failures c.args.tree.now ≤ g.T.Tree.failures c.load_script.new.tree
    = omega (arith, c.in_ok-script.ensures.reads.counted.later, c.in_ok-lines.ensures.reads.counted.later) in
    let old = state g.T.Tree c.args.tree.now in
    let new = state g.T.Tree c.run_commands.new.tree in
    let same = λ (h : honest). c.in_ok-lines.ensures.reads.unchanged h ∙ c.in_ok-script.ensures.reads.unchanged h in
    inr (
      c.deref.result.now,
      actions,
      search rules,
      λ h.
          let there = c.in_ok-script.ensures.bytes h ∙ ap (λ b. Ok b) (sym c.deref.ensures.value) in
          let mid = g.T.Tree.files c.read_given.new.tree in
          let asked = c.in_ok-lines.ensures.lines h ∙ ap of_engine (c.in_ok-commands.ensures.given mid (c.in_ok-lines.ensures.given h)) in
          script_there _ _ c.args.path.now _ (Ok actions) (c.in_ok-script.ensures.reads.unchanged h) there asked,
      runs_all _ _ _ (RunsOn c.args.dialect honest old new actions) _ _ _ (λ unchanged h. unchanged h ∙ same h)
          (λ replies run. file_run_follows c.args.dialect honest old (state g.T.Tree c.load_script.new.tree) _ actions replies new same later are run) are
          c.run_commands.ensures.ran,
    )
