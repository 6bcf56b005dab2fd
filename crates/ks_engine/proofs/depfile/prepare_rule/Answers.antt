use Rattle.ks_engine.proofs.depfile.prepare_rule.Goals as goal

pub prepare_rule_by-requires : goal.prepare_rule_by-requires
prepare_rule_by-requires g c = record { cache = λ honest. c.of_one_object-cache.ensures (g.T.Tree.files c.args.tree.now) }
