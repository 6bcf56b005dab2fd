use Rattle.ks_engine.proofs.Prelude.{vec_items}
use Rattle.ks_engine.proofs.Keeping.{pairs-insert}
use Rattle.ks_engine.proofs.costs.keep_tally.Goals as goal

pub returns : goal.returns
returns c = rw (c.in_ok-insert.ensures.entries, ← c.in_ok-key.ensures.items) (pairs-insert vec_items c.args.tallies.now.entries c.in_ok-key.key c.args.tally)
