use Rattle.ks_engine.proofs.Prelude.{ap, vec_items, ◌∙◌, found_of, pairs_of, IsCached, rules}
use Rattle.ks_engine.proofs.Keeping.{kept_added, pairs-insert}
use Rattle.ks_engine.proofs.caches.Cache.insert_source.Goals as goal

pub returns-in_err-insert-clause-cache : goal.returns-in_err-insert-clause-cache
returns-in_err-insert-clause-cache c = search rules

pub returns-clause-cache : goal.returns-clause-cache
returns-clause-cache c = λ files is kept.
    let es = c.args.self.now.sources.entries in
    let added = ap (pairs_of vec_items) c.in_ok-insert.ensures.entries ∙ pairs-insert vec_items es c.in_ok-key.key c.args.place in
    record {
      generation = is.generation;
      stamps = is.stamps;
      sources = rw (added, c.in_ok-key.ensures.items) (kept_added (IsCached c.args.self.now.rules files (found_of c.args.self.now.found.scan)) c.args.path.now
          c.args.place (pairs_of vec_items es) is.sources kept);
    }
