use Rattle.std.proofs.Common.{◌≡◌, ◌+◌, ◌≤◌, length}
use Rattle.ks_hidden.specs.HeaderLines.{foreign_from, foreign_line}
use Rattle.ks_hidden.proofs.header_lines.foreign_line.Given as goal

-- the lines that are left have the first foreign one of the whole
abbrev pub invariant-loop-line : goal.invariant-loop-line
invariant-loop-line l = record {
  found : foreign_from l.dialect l.config.texts l.in_comment l.number l.line-iterator ≡ foreign_line l.dialect l.config.texts l.fn.header;
  numbers : l.number + length l.line-iterator ≤ 9223372036854775809;
}
