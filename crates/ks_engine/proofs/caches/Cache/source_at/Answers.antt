use Rattle.ks_engine.proofs.Prelude.{[], ◌∷◌, refl, found_of, IsCached, IsCacheOf, rules}
use Rattle.ks_engine.proofs.Keeping.{grows_none, kept_found_or_at, last_kept, cache_grown}
use Rattle.ks_engine.proofs.caches.Cache.source_at.Given as given
use Rattle.ks_engine.proofs.caches.Cache.source_at.Goals as goal
use Rattle.ks_engine.proofs.caches.Cache.source_at.Goals.{After-insert_source}

-- once the source was scanned it may be kept, whatever comes of that
cache_left : (g : given.Over) (c : After-insert_source g) → g.T.Tree.is_honest → IsCacheOf (g.T.Tree.files c.scan_file.new.tree) c.insert_source.new.self
cache_left g c honest =
    let same = c.in_ok-scan_file.ensures.reads.unchanged honest in
    let (names, grown, stated) = c.in_ok-scan_file.ensures.scanned in
    rw same (c.insert_source.ensures.cache _ (cache_grown (g.T.Tree.files c.args.tree.now) c.args.self.now _ refl refl refl refl (names ∷ [], grown)
    (c.requires.cache honest))
    (last_kept c.args.self.now.rules (g.T.Tree.files c.args.tree.now)
    (found_of c.args.self.now.found.scan) c.args.path.now names _ c.len-place.result c.len-place.ensures grown (stated honest)))

pub returns-in-Some-clause-cache : goal.returns-in-Some-clause-cache
returns-in-Some-clause-cache g c = search rules

pub returns-in-Some-clause-grows : goal.returns-in-Some-clause-grows
returns-in-Some-clause-grows g c = grows_none _ _ refl

pub returns-in-Some-clause-scanned : goal.returns-in-Some-clause-scanned
returns-in-Some-clause-scanned g c = λ honest. kept_found_or_at (IsCached _ _ _) c.args.path.now c.in-Some.place _
    (c.requires.cache honest).sources c.in-Some.ensures

pub returns-in_err-scan_file-clause-cache : goal.returns-in_err-scan_file-clause-cache
returns-in_err-scan_file-clause-cache g c = λ honest.
    rw (c.in_err-scan_file.ensures.reads.unchanged honest) (cache_grown (g.T.Tree.files c.args.tree.now) c.args.self.now _ refl refl refl refl
    (grows_none _ _ c.in_err-scan_file.ensures.kept) (c.requires.cache honest))

pub returns-in_err-insert_source-clause-cache : goal.returns-in_err-insert_source-clause-cache
returns-in_err-insert_source-clause-cache g c = cache_left g (goal.at.returns-in_err-insert_source-clause-cache g c).After-insert_source

pub returns-clause-cache : goal.returns-clause-cache
returns-clause-cache g c = cache_left g (goal.at.returns-clause-cache g c).After-insert_source

pub returns-clause-grows : goal.returns-clause-grows
returns-clause-grows g c = search rules

pub returns-clause-scanned : goal.returns-clause-scanned
returns-clause-scanned g c = search (rules, last_kept)
