use Rattle.ks_engine.proofs.Prelude.{inr, ◌≡◌, ◌∙◌, None, subst, take, content}
use Rattle.ks_engine.proofs.Writes.{beginning, on_err}
use Rattle.ks_engine.proofs.DepfileLemmas.{stamps_left, rule_left}
use Rattle.ks_engine.proofs.depfile.leave_rule.Goals as goal

pub returns-in_err-make_stamps-clause-tried : goal.returns-in_err-make_stamps-clause-tried
returns-in_err-make_stamps-clause-tried g c = λ honest.
    let made = c.in_err-make_stamps.ensures.some honest in
    let names = c.args.names.now in
    on_err c.from_residual-in_err-make_stamps.result _
    (take made.0 names, stamps_left c.args.depfile.now names c.args.rule.now c.requires.free _ _ (take made.0 names) (beginning names made.0) made.1)

pub returns-in_err-replace-clause-tried : goal.returns-in_err-replace-clause-tried
returns-in_err-replace-clause-tried g c = λ honest. on_err c.from_residual-in_err-replace.result _ (
  c.args.names.now,
  rule_left c.args.depfile.now c.args.names.now c.args.rule.now c.requires.free _ _ _ _ (c.deref.ensures.value ∙ c.in_ok-temporary.ensures) (c.requires.legal honest)
      (c.in_ok-make_stamps.ensures.all honest) (c.in_err-replace.ensures.others honest) (c.in_err-replace.ensures.old_or_new honest),
)

pub returns-clause-done : goal.returns-clause-done
returns-clause-done g c = λ honest.
    let written = c.in_ok-replace.ensures.written honest in
    record {
      leaves = rule_left c.args.depfile.now c.args.names.now c.args.rule.now c.requires.free _ _ _ _ (c.deref.ensures.value ∙ c.in_ok-temporary.ensures) (c.requires.legal honest)
          (c.in_ok-make_stamps.ensures.all honest) (c.in_ok-replace.ensures.others honest) (inr written);
      text_is = written;
      gone = subst (λ t. content (g.T.Tree.files c.replace.new.tree) t ≡ None) (c.deref.ensures.value ∙ c.in_ok-temporary.ensures) (c.in_ok-replace.ensures.gone honest);
    }
