use Rattle.ks_requests.proofs.Prelude.{◌≡◌, ◌+◌, ◌≤◌, ◌++◌, length, map, filter_map, position_from, lines, seen_line, script_line, is_faulty}
use Rattle.ks_requests.proofs.script.read_script.Given as goal

-- what was read so far, and what the lines that are left ask for, is what all lines ask for
abbrev pub invariant-loop-line : goal.invariant-loop-line
invariant-loop-line l = record {
  stated : map seen_line l.lines.items ++ filter_map script_line l.line-iterator ≡ filter_map script_line (lines l.fn.text);
  fault : position_from is_faulty l.number l.line-iterator ≡ position_from is_faulty 1 (lines l.fn.text);
  numbers : l.number + length l.line-iterator ≤ 67108865;
}
