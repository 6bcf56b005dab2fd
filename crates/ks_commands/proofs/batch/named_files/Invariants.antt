use Rattle.ks_commands.proofs.Prelude.{◌≡◌, ◌≤◌, List, map, take, drop, All, Action, seen_line, AreGiven, AreKept, actions_at}
use Rattle.ks_commands.proofs.Loading.{following}
use Rattle.ks_commands.proofs.batch.named_files.Given as goal

abbrev pub invariant-loop-line : goal.invariant-loop-line
invariant-loop-line g l = record {
  unchanged : g.T.Tree.is_honest → g.T.Tree.files l.tree ≡ g.T.Tree.files l.fn.tree;
  kept : g.T.Tree.backdated l.tree ≡ g.T.Tree.backdated l.fn.tree;
  later : g.T.Tree.failures l.fn.tree ≤ g.T.Tree.failures l.tree;
  given : g.T.Tree.is_honest → AreGiven (g.T.Tree.files l.fn.tree) l.kept;
  here : All (λ line. AreKept l.kept (seen_line line)) (take l.line-index l.lines);
  before : g.T.Tree.is_honest → (front : List Action)
      × (following front (actions_at (g.T.Tree.files l.fn.tree) (map seen_line (drop l.line-index l.lines)))
      ≡ actions_at (g.T.Tree.files l.fn.tree) (map seen_line l.lines));
}
