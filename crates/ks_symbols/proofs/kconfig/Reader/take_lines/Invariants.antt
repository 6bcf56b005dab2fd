use Rattle.ks_symbols.proofs.Prelude.{◌≡◌, ◌+◌, ◌≤◌, [], length, map, lines, line_kind, or_else, no_progress, first_clash}
use Rattle.ks_symbols.proofs.Story.{run_fault, run_end}
use Rattle.ks_symbols.proofs.kconfig.Reader.take_lines.Given as goal

-- from here on the reader finds what it finds from the beginning on, or kinds have clashed before
abbrev pub invariant-loop-line : goal.invariant-loop-line
invariant-loop-line l = record {
  refusal : or_else (first_clash [] l.self.declared) (run_fault l.self l.number (map (line_kind l.fn.dialect) l.line-iterator)) ≡ run_fault no_progress 1 (map (line_kind l.fn.dialect) (lines l.fn.text));
  ends : run_end l.self l.number (map (line_kind l.fn.dialect) l.line-iterator) ≡ run_end no_progress 1 (map (line_kind l.fn.dialect) (lines l.fn.text));
  numbers : l.number + length l.line-iterator ≤ 67108865;
}
