use Rattle.ks_engine.proofs.Prelude.{map, take, ◌≡◌}
use Rattle.ks_engine.specs.Repairs.{Forgets}
use Rattle.ks_tree.specs.Frames.{Counted}
use Rattle.ks_engine.proofs.repairing.forget_records.Given as goal

abbrev pub invariant-loop-target : goal.invariant-loop-target
invariant-loop-target g l = record {
  all : g.T.Tree.is_honest → Forgets (map (λ t. t.now) (take l.target-index l.targets)) (g.T.Tree.files l.fn.tree) (g.T.Tree.files l.tree);
  counted : Counted g.T.Tree l.fn.tree l.tree ⊥;
  kept : g.T.Tree.backdated l.tree ≡ g.T.Tree.backdated l.fn.tree;
}
