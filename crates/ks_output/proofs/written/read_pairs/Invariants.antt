use Rattle.ks_output.proofs.Prelude.{◌≡◌, ◌≤◌, ◌+◌, length, lines_of}
use Rattle.std.specs.FinMap as map
use Rattle.ks_output.specs.SeenNames.{AreNamesOf}
use Rattle.ks_output.specs.Written.{with_pairs}
use Rattle.ks_output.proofs.written.read_pairs.Given as goal

-- what was read so far, with the lines that are left, comes to what all lines do
abbrev pub invariant-loop-line : goal.invariant-loop-line
invariant-loop-line l = record {
  pairs : with_pairs l.number l.draft l.line-iterator l.left ≡ with_pairs 5 map.empty (lines_of l.fn.autos) (lines_of l.fn.definitions);
  seen : AreNamesOf l.draft l.seen;
  numbers : l.number + length l.line-iterator ≡ 5 + length (lines_of l.fn.autos);
  small : length (lines_of l.fn.autos) ≤ 9223372036854775807;
}
