use Rattle.ks_commands.proofs.Prelude.{◌≡◌, ◌≤◌, Explanation, Files, IsCacheOf, List, Part, ReportsAll, querying_by, code_of, map, stale_among, state, statuses, take}
use Rattle.ks_commands.proofs.queries.query_each.Given as goal

abbrev pub invariant-loop-target : goal.invariant-loop-target
invariant-loop-target g l = record {
  unchanged : g.T.Tree.is_honest → g.T.Tree.files l.tree ≡ g.T.Tree.files l.fn.tree;
  cache : g.T.Tree.is_honest → IsCacheOf (g.T.Tree.files l.tree) l.cache;
  reported : (files : Files) → (g.T.Tree.is_honest → g.T.Tree.files l.fn.tree ≡ files) → (parts : List (Part Explanation))
      × ReportsAll (querying_by g.T.Tree.is_honest files l.backdates l.format l.query) parts (state g.T.Tree l.fn.tree)
      (map (λ t. t.now) (take l.target-index l.targets)) l.text.items (code_of l.status) (state g.T.Tree l.tree)
      × (l.stale ≡ stale_among (statuses parts));
  few : l.stale ≤ l.target-index;
}
