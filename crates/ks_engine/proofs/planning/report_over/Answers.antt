use Rattle.ks_engine.proofs.Prelude.{rules}
use Rattle.ks_engine.proofs.Reading.{plan_made}
use Rattle.ks_engine.proofs.planning.report_over.Goals as goal

pub returns-clause-planned : goal.returns-clause-planned
returns-clause-planned c = search (rules, plan_made)
