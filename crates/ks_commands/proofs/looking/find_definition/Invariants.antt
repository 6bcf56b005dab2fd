use Rattle.ks_commands.proofs.Prelude.{◌≡◌, ◌≤◌, length}
use Rattle.ks_hidden.specs.Macros.{is_in}
use Rattle.ks_commands.specs.Looking.{AreFirst, DefinesNone}
use Rattle.ks_commands.proofs.looking.find_definition.Given as goal

-- the files that were looked at define none of these macros
abbrev pub invariant-loop-place : goal.invariant-loop-place
invariant-loop-place g l = record {
  unchanged : g.T.Tree.is_honest → g.T.Tree.files l.tree ≡ g.T.Tree.files l.fn.tree;
  kept : g.T.Tree.backdated l.tree ≡ g.T.Tree.backdated l.fn.tree;
  same : g.T.Tree.failures l.tree ≡ g.T.Tree.failures l.fn.tree;
  within : l.place ≤ length l.prerequisites;
  none : g.T.Tree.is_honest → AreFirst (DefinesNone (is_in l.macros) (g.T.Tree.files l.fn.tree)) l.prerequisites l.place;
}
