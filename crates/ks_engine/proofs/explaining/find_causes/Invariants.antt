use Rattle.ks_engine.proofs.Prelude.{◌≡◌, IsTrue, map, is_path, seen_dep, Files, AreTooFew, IsCacheOf, IsSeen, limit_of}
use Rattle.ks_engine.proofs.Listing.{LookedAt}
use Rattle.ks_engine.proofs.explaining.find_causes.Given as goal

-- the names so far were looked at, and one more cause is looked for
abbrev pub invariant-loop-dep : goal.invariant-loop-dep
invariant-loop-dep g l = record {
  unchanged : g.T.Tree.is_honest → g.T.Tree.files l.tree ≡ g.T.Tree.files l.fn.tree;
  kept : g.T.Tree.backdated l.tree ≡ g.T.Tree.backdated l.fn.tree;
  cache : g.T.Tree.is_honest → IsCacheOf (g.T.Tree.files l.tree) l.cache;
  same : g.T.Tree.failures l.tree ≡ g.T.Tree.failures l.fn.tree;
  place : IsTrue (is_path l.place);
  few : AreTooFew (limit_of l.query) l.causes.items;
  looked : g.T.Tree.is_honest → (after : Files) → IsSeen l.query (g.T.Tree.files l.fn.tree) after
      → LookedAt after l.generation l.source (map seen_dep l.deps) l.dep-index l.place l.causes.items;
}
