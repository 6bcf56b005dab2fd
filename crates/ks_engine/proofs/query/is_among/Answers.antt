use Rattle.ks_engine.proofs.Prelude.{rules, always_returns_same}
use Rattle.ks_engine.proofs.Predicting.{order, search_reports}
use Rattle.ks_engine.proofs.query.is_among.Goals as goal

pub returns : goal.returns
returns c = search (rules, search_reports, order, always_returns_same)
