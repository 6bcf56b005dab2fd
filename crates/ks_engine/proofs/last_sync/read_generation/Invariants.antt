use Rattle.ks_engine.proofs.Prelude.{◌≡◌, ◌+◌, ◌-◌, ◌≤◌, ◌<◌, ◌++◌, List, ℕ, Some, take, length, content, auto_path}
use Rattle.ks_output.specs.AutoScan.{StandsAfter}
use Rattle.ks_engine.proofs.last_sync.read_generation.Given as goal

-- it stands after what was read but for what is kept, which on an honest tree are the bytes before the offset
abbrev pub invariant-loop-buffer : goal.invariant-loop-buffer
invariant-loop-buffer g l = record {
  unchanged : g.T.Tree.is_honest → g.T.Tree.files l.tree ≡ g.T.Tree.files l.fn.tree;
  kept : g.T.Tree.backdated l.tree ≡ g.T.Tree.backdated l.fn.tree;
  same : g.T.Tree.failures l.tree ≡ g.T.Tree.failures l.fn.tree;
  within : l.kept < length l.buffer.items;
  buffer : length l.buffer.items ≤ 134217728;
  small : l.offset ≤ 67108864;
  stands : (t : List ℕ) × StandsAfter l.scan t × (l.offset ≡ length t + l.kept)
      × (g.T.Tree.is_honest → (b : List ℕ) → content (g.T.Tree.files l.fn.tree) auto_path ≡ Some b → t ++ take l.kept l.buffer.items ≡ take l.offset b);
}

abbrev pub decreases-loop-buffer : goal.decreases-loop-buffer
decreases-loop-buffer g l = 67108864 - l.offset
