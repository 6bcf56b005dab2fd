use Rattle.ks_commands.proofs.Prelude.{◌≡◌, ◌≤◌, length, map}
use Rattle.std.specs.Prelude.{string_bytes}
use Rattle.ks_commands.specs.Looking.{AreFirst, IsProgram}
use Rattle.ks_commands.proofs.looking.look_at_tools.Given as goal

-- the tools that were looked at are programs
abbrev pub invariant-loop-place : goal.invariant-loop-place
invariant-loop-place g l = record {
  unchanged : g.T.Tree.is_honest → g.T.Tree.files l.tree ≡ g.T.Tree.files l.fn.tree;
  kept : g.T.Tree.backdated l.tree ≡ g.T.Tree.backdated l.fn.tree;
  same : g.T.Tree.failures l.tree ≡ g.T.Tree.failures l.fn.tree;
  within : l.place ≤ length l.tools;
  are : g.T.Tree.is_honest → AreFirst (IsProgram (g.T.Tree.files l.fn.tree)) (map (λ tool. string_bytes tool) l.tools) l.place;
}
