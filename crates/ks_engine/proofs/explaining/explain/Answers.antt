use Rattle.ks_engine.proofs.Explanations.{explanation_evaluated}
use Rattle.ks_engine.proofs.explaining.explain.Goals as goal

pub query_object-requires : goal.query_object-requires
query_object-requires g c = record { cache = λ honest. c.with_seed-cache.ensures (g.T.Tree.files c.args.tree.now) }

pub returns-clause-recorded : goal.returns-clause-recorded
returns-clause-recorded g c = λ honest h r shows last.
    explanation_evaluated (g.T.Tree.files c.args.tree.now) h c.args.target.now r c.query_object.result (c.query_object.ensures.answer honest).by_files shows last
