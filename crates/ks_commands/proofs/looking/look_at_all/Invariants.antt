use Rattle.ks_commands.proofs.Prelude.{◌≡◌, ◌≤◌, ◌||◌, ℕ, List, drop, length}
use Rattle.ks_hidden.specs.Macros.{is_in}
use Rattle.ks_commands.specs.Looking.{AreFirst, IsPlain, is_included, looked_by}
use Rattle.ks_commands.proofs.looking.look_at_all.Given as goal

-- the files that were looked at are as they should be; a macro that a file includes is noted, or in one of those that are left
abbrev pub invariant-loop-place : goal.invariant-loop-place
invariant-loop-place g l = record {
  unchanged : g.T.Tree.is_honest → g.T.Tree.files l.tree ≡ g.T.Tree.files l.fn.tree;
  kept : g.T.Tree.backdated l.tree ≡ g.T.Tree.backdated l.fn.tree;
  same : g.T.Tree.failures l.tree ≡ g.T.Tree.failures l.fn.tree;
  within : l.place ≤ length l.prerequisites;
  plain : g.T.Tree.is_honest → AreFirst (IsPlain (looked_by l.look) (g.T.Tree.files l.fn.tree)) l.prerequisites l.place;
  noted : g.T.Tree.is_honest → (x : List ℕ)
      → (is_in l.included x || is_included (looked_by l.look) (g.T.Tree.files l.fn.tree) (drop l.place l.prerequisites) x)
      ≡ (is_in l.fn.included x || is_included (looked_by l.look) (g.T.Tree.files l.fn.tree) l.prerequisites x);
}
