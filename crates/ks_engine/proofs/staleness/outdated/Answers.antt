use Rattle.ks_engine.proofs.Querying.{build_evaluated}
use Rattle.ks_engine.proofs.staleness.outdated.Goals as goal

pub returns-clause-recorded : goal.returns-clause-recorded
returns-clause-recorded g c = λ honest word h r shows last.
    build_evaluated (g.T.Tree.files c.args.tree.now) h c.args.target.now c.args.command.now r c.query_command.result (c.query_command.ensures.answer honest) word shows
    last

pub query_command-requires : goal.query_command-requires
query_command-requires g c = record { cache = λ honest. c.with_seed-cache.ensures (g.T.Tree.files c.args.tree.now) }
