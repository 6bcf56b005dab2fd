use Rattle.ks_engine.proofs.Prelude.{map, take, ◌≡◌, ◌≤◌, IsCacheOf}
use Rattle.ks_engine.specs.Marks.{MarksAll}
use Rattle.ks_tree.specs.Frames.{Counted}
use Rattle.ks_engine.proofs.marking.mark_due.Given as goal

abbrev pub invariant-loop-target : goal.invariant-loop-target
invariant-loop-target g l = record {
  marked : g.T.Tree.is_honest → MarksAll l.which (map (λ t. t.now) (take l.target-index l.targets)) (g.T.Tree.files l.fn.tree) (g.T.Tree.files l.tree) l.marked;
  cache : g.T.Tree.is_honest → IsCacheOf (g.T.Tree.files l.tree) l.cache;
  few : l.marked ≤ l.target-index;
  counted : Counted g.T.Tree l.fn.tree l.tree ⊥;
  kept : g.T.Tree.backdated l.tree ≡ g.T.Tree.backdated l.fn.tree;
}
