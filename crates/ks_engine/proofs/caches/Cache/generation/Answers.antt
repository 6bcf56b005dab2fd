use Rattle.ks_engine.proofs.Prelude.{rules}
use Rattle.ks_engine.proofs.caches.Cache.generation.Goals as goal

pub returns-clause-cache : goal.returns-clause-cache
returns-clause-cache g c = search rules
