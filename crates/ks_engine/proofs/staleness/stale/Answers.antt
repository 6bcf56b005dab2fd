use Rattle.ks_engine.proofs.Querying.{stale_evaluated}
use Rattle.ks_engine.proofs.staleness.stale.Goals as goal

pub stale_by-requires : goal.stale_by-requires
stale_by-requires g c = record { cache = λ honest. c.with_seed-cache.ensures (g.T.Tree.files c.args.tree.now) }

pub returns-clause-recorded : goal.returns-clause-recorded
returns-clause-recorded g c = λ honest h r shows last.
    stale_evaluated (g.T.Tree.files c.args.tree.now) h c.args.target.now r _ (c.stale_by.ensures.answer honest) shows last
