use Rattle.ks_engine.proofs.Prelude.{rules}
use Rattle.ks_engine.proofs.FileRunning.{goes_on}
use Rattle.ks_engine.proofs.commands.run.Goals as goal

pub answer_all-requires : goal.answer_all-requires
answer_all-requires g c = record {
  cache = λ honest. c.with_seed-cache.ensures (g.T.Tree.files c.args.tree.now);
  none = c.in_ok-replies.ensures.items;
  headroom = search rules;
}

pub returns-clause-runs : goal.returns-clause-runs
returns-clause-runs g c = λ honest h shows. goes_on _ _ _ _ _ h honest shows c.answer_all.ensures.steps
