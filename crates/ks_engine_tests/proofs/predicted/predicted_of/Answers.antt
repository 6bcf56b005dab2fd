use Rattle.ks_engine_tests.proofs.predicted.predicted_of.Goals as goal

pub predicted_by-requires : goal.predicted_by-requires
predicted_by-requires g c = record { cache = λ honest. c.with_seed-cache.ensures (g.T.Tree.files c.args.tree.now) }
