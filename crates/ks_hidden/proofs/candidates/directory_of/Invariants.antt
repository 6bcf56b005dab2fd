use Rattle.std.proofs.Common.{◌≡◌, ◌≤◌, length, take, drop}
use Rattle.ks_hidden.specs.Candidates.{directory_in, directory_of}
use Rattle.ks_hidden.proofs.candidates.directory_of.Given as goal

abbrev pub invariant-loop-i : goal.invariant-loop-i
invariant-loop-i l = record {
  within : l.i ≤ length l.path;
  found : directory_in l.directory (take l.i l.path) (drop l.i l.path) ≡ directory_of l.path;
}
