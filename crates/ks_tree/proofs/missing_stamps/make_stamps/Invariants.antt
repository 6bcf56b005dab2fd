use Rattle.ks_tree.proofs.Prelude.{◌≡◌, take, MakesStamps}
use Rattle.ks_tree.proofs.missing_stamps.make_stamps.Given as goal

abbrev pub invariant-loop-name : goal.invariant-loop-name
invariant-loop-name g l = record {
  made : g.T.Tree.is_honest → MakesStamps (take l.name-index l.names) (g.T.Tree.files l.fn.tree) (g.T.Tree.files l.tree);
  same : g.T.Tree.failures l.tree ≡ g.T.Tree.failures l.fn.tree;
  kept : g.T.Tree.backdated l.tree ≡ g.T.Tree.backdated l.fn.tree;
}
