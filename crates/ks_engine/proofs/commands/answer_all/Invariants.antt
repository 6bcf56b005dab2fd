use Rattle.ks_engine.proofs.Prelude.{◌≡◌, ◌≤◌, length, take, map, vec_len, vec_capacity, action, calls_of, FileRun, state, IsCacheOf}
use Rattle.ks_engine.proofs.commands.answer_all.Given as goal

-- the commands so far have a run with the replies so far, and there is room for the other replies
abbrev pub invariant-loop-command : goal.invariant-loop-command
invariant-loop-command g l = record {
  run : FileRun l.fn.dialect g.T.Tree.is_honest (state g.T.Tree l.fn.tree) (calls_of (map action (take l.command-index l.commands)) l.replies.items)
      (state g.T.Tree l.tree);
  later : g.T.Tree.failures l.fn.tree ≤ g.T.Tree.failures l.tree;
  kept : g.T.Tree.backdated l.tree ≡ g.T.Tree.backdated l.fn.tree;
  cache : g.T.Tree.is_honest → IsCacheOf (g.T.Tree.files l.tree) l.cache;
  reported : vec_len l.replies ≡ l.command-index;
  headroom : length l.commands ≤ vec_capacity l.replies;
}
