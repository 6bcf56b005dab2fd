use Rattle.ks_engine.proofs.Prelude.{are_placed, ◌≡◌, ◌≤◌, true, drop, length, found_of, picked, IsCacheOf, scanned_all}
use Rattle.ks_engine.proofs.Scanning.{following}
use Rattle.ks_engine.proofs.sources.scan_all_by.Given as goal

-- there are as many places as there were prerequisites; on an honest tree all there is to find is what the sources there have and what the
-- prerequisites left have
abbrev pub invariant-loop-place : goal.invariant-loop-place
invariant-loop-place g l = record {
  unchanged : g.T.Tree.is_honest → g.T.Tree.files l.tree ≡ g.T.Tree.files l.fn.tree;
  kept : g.T.Tree.backdated l.tree ≡ g.T.Tree.backdated l.fn.tree;
  same : g.T.Tree.failures l.tree ≡ g.T.Tree.failures l.fn.tree;
  within : l.place ≤ length l.prerequisites;
  buffer : length l.buffer ≡ 4096;
  cache : g.T.Tree.is_honest → IsCacheOf (g.T.Tree.files l.tree) l.cache;
  rules : l.cache.rules ≡ l.fn.cache.rules;
  counts : length l.sources.items ≡ l.place;
  scanned : g.T.Tree.is_honest → (are_placed (found_of l.cache.found.scan) l.sources.items ≡ true)
      × (scanned_all l.fn.cache.rules (g.T.Tree.files l.fn.tree) l.prerequisites
      ≡ following (picked (found_of l.cache.found.scan) l.sources.items) (scanned_all l.fn.cache.rules (g.T.Tree.files l.fn.tree) (drop l.place l.prerequisites)));
}
