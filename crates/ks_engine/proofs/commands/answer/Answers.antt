use Rattle.ks_engine.proofs.Prelude.{◌≡◌, EngineError, IsSyncRefused, Some, subst, rules}
use Rattle.ks_engine.proofs.commands.answer.Goals as goal

error_is : (e f : EngineError) → Some e ≡ Some f → e ≡ f
error_is e f same = cc

pub returns-in-Err-clause-step : goal.returns-in-Err-clause-step
returns-in-Err-clause-step g c = record {
  leaves = λ honest. rw c.in-Sync.is (subst (λ source. IsSyncRefused (g.T.Tree.files c.args.tree.now) (g.T.Tree.files c.sync.new.tree) source c.in-Err.error)
      c.of_kconfig-texts.ensures (c.in-Err.ensures.refused honest));
  backdates = search rules;
  later = search rules;
  cause = search (rules, error_is);
  uncounted = search (rules, error_is);
}

pub returns-in-Err-record_by-clause-step : goal.returns-in-Err-record_by-clause-step
returns-in-Err-record_by-clause-step g c = search (rules, error_is)

pub returns-in-Ok-clause-cache : goal.returns-in-Ok-clause-cache
returns-in-Ok-clause-cache g c = λ honest. c.clear.ensures (g.T.Tree.files c.sync.new.tree)

pub returns-in-Err-clause-cache : goal.returns-in-Err-clause-cache
returns-in-Err-clause-cache g c = λ honest. c.clear.ensures (g.T.Tree.files c.sync.new.tree)
