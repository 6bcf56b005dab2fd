use Rattle.ks_engine.proofs.Prelude.{config_source}
use Rattle.ks_engine.proofs.Predicting.{impact_reported}
use Rattle.ks_engine.proofs.impact.Impact.of.Goals as goal

pub returns-clause-reported : goal.returns-clause-reported
returns-clause-reported g c = λ honest.
    impact_reported (g.T.Tree.files c.args.tree.now) (config_source c.args.texts.now) c.in_ok-planned.planned (c.in_ok-planned.ensures.planned honest)
