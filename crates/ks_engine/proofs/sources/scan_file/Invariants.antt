use Rattle.ks_engine.proofs.Prelude.{◌≡◌, ◌-◌, ◌≤◌, List, ℕ, Some, take, length, content, StandsAfterAs, found_of}
use Rattle.ks_engine.proofs.sources.scan_file.Given as goal

-- it stands after what was read, which on an honest tree are the bytes before the offset
abbrev pub invariant-loop-count : goal.invariant-loop-count
invariant-loop-count g l = record {
  unchanged : g.T.Tree.is_honest → g.T.Tree.files l.tree ≡ g.T.Tree.files l.fn.tree;
  kept : g.T.Tree.backdated l.tree ≡ g.T.Tree.backdated l.fn.tree;
  same : g.T.Tree.failures l.tree ≡ g.T.Tree.failures l.fn.tree;
  full : length l.buffer ≡ 4096;
  found : found_of l.scan ≡ found_of l.fn.scan;
  small : l.offset ≤ 67108864;
  stands : (t : List ℕ) × StandsAfterAs l.rules l.scan t
      × (g.T.Tree.is_honest → (b : List ℕ) → content (g.T.Tree.files l.fn.tree) l.path ≡ Some b → t ≡ take l.offset b);
}

abbrev pub decreases-loop-count : goal.decreases-loop-count
decreases-loop-count g l = 67108864 - l.offset
