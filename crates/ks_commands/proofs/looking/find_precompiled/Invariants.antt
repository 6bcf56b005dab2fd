use Rattle.ks_commands.proofs.Prelude.{◌≡◌, ◌≤◌, length, map}
use Rattle.std.specs.Prelude.{vec_items}
use Rattle.ks_commands.specs.Looking.{AreFirst, IsAbsent}
use Rattle.ks_commands.proofs.looking.find_precompiled.Given as goal

-- there is no file at the paths that were looked at
abbrev pub invariant-loop-place : goal.invariant-loop-place
invariant-loop-place g l = record {
  unchanged : g.T.Tree.is_honest → g.T.Tree.files l.tree ≡ g.T.Tree.files l.fn.tree;
  kept : g.T.Tree.backdated l.tree ≡ g.T.Tree.backdated l.fn.tree;
  same : g.T.Tree.failures l.tree ≡ g.T.Tree.failures l.fn.tree;
  within : l.place ≤ length l.paths;
  absent : g.T.Tree.is_honest → AreFirst (IsAbsent (g.T.Tree.files l.fn.tree)) (map vec_items l.paths) l.place;
}
