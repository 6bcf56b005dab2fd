use Rattle.ks_fixdep.proofs.Prelude.{◌≡◌, all_noted, drop, flat_map, map}
use Rattle.ks_fixdep.specs.SymbolPatterns.{named_by, seen_pattern}
use Rattle.ks_fixdep.proofs.word_scan.note_patterns.Given as goal

-- what those so far name is noted, and what those name that are left is still to be
abbrev pub invariant-loop-pattern : goal.invariant-loop-pattern
invariant-loop-pattern l = record {
  found : l.table.found ≡ l.fn.table.found;
  current : all_noted l.fn.table.current (flat_map (λ pattern. named_by pattern l.word) (map seen_pattern l.patterns))
      ≡ all_noted l.table.current (flat_map (λ pattern. named_by pattern l.word) (map seen_pattern (drop l.pattern-index l.patterns)));
}
