use Rattle.ks_tree.proofs.Prelude.{◌≡◌, ◌≤◌, ◌++◌, ◌∷◌, take, drop, dotted}
use Rattle.ks_tree.proofs.paths.directory_len.Given as goal

abbrev pub invariant-loop-i : goal.invariant-loop-i
invariant-loop-i l = record {
  within : l.len ≤ l.i;
  border : dotted (take l.i l.path) ≡ take l.len l.path ++ 46 ∷ drop l.len (take l.i l.path);
}
