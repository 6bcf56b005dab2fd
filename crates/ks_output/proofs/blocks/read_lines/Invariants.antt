use Rattle.ks_output.proofs.Prelude.{◌≡◌, ◌≤◌, ◌+◌, length, lines_of}
use Rattle.ks_output.specs.Blocks.{first_walk, walk_at, with_lines}
use Rattle.ks_output.proofs.blocks.read_lines.Given as goal

-- what was read so far, with the lines that are left, comes to what all lines do
abbrev pub invariant-loop-line : goal.invariant-loop-line
invariant-loop-line l = record {
  lines : with_lines l.number (walk_at l.place l.names l.draft l.left) l.line-iterator ≡ with_lines l.fn.first (first_walk l.fn.blocks) (lines_of l.fn.body);
  numbers : l.number + length l.line-iterator ≡ l.fn.first + length (lines_of l.fn.body);
  small : length (lines_of l.fn.body) ≤ 9223372036854775807;
}
