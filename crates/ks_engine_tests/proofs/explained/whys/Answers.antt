use Rattle.ks_engine_tests.proofs.explained.whys.Goals as goal

pub why-first-requires : goal.why-first-requires
why-first-requires g c = record { cache = λ honest. c.with_seed-cache.ensures (g.T.Tree.files c.args.tree.now) }
