use Rattle.ks_engine.proofs.Prelude.{string_bytes}
use Rattle.ks_engine.proofs.Keeping.{pairs-insert}
use Rattle.ks_engine.proofs.caches.insert_stamp.Goals as goal

pub returns-clause-added : goal.returns-clause-added
returns-clause-added c = rw (c.in_ok-insert.ensures.entries, ← c.in_ok-key.ensures.ok)
    (pairs-insert string_bytes c.args.stamps.now.entries c.in_ok-key.key c.args.number)
