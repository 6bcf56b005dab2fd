use Rattle.ks_commands.proofs.queries.query_all.Goals as goal

pub query_each-requires : goal.query_each-requires
query_each-requires g c = record { cache = λ honest. c.with_seed-cache.ensures (g.T.Tree.files c.args.tree.now); may_backdate = c.requires.may_backdate }
