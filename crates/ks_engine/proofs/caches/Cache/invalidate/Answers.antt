use Rattle.ks_engine.proofs.Prelude.{vec_items}
use Rattle.ks_engine.proofs.Keeping.{not_kept, value-pairs}
use Rattle.ks_engine.proofs.caches.Cache.invalidate.Goals as goal

pub returns-else-contains_key-clause-gone : goal.returns-else-contains_key-clause-gone
returns-else-contains_key-clause-gone c =
    let at = value-pairs vec_items c.args.path.now c.args.self.now.sources.entries in
    not_kept c.args.path.now _ (rw (at, ← c.contains_key.ensures) c.if-contains_key.false)
