use Rattle.ks_symbols.proofs.Prelude.{◌≡◌, ◌+◌, ◌≤◌, ℕ, List, length, None, lines, line_fault, first_fault, unknown_count}
use Rattle.std.specs.FinMap as map
use Rattle.ks_symbols.proofs.LastLine.{settled}
use Rattle.ks_symbols.proofs.dotconfig.build_settings.Given as goal

-- what was read so far and what the lines that are left do to it is what all lines do
abbrev pub invariant-loop-line : goal.invariant-loop-line
invariant-loop-line l =
    let kinds = map.get l.fn.symbols.kinds in
    record {
      same : l.settings.kinds ≡ l.fn.symbols.kinds;
      entries : (x : List ℕ) → settled (kinds x) x (map.get l.settings.entries x) l.line-iterator ≡ settled (kinds x) x None (lines l.fn.text);
      unknown : l.settings.unknown + unknown_count kinds l.line-iterator ≡ unknown_count kinds (lines l.fn.text);
      refusal : first_fault (line_fault kinds) l.number l.line-iterator ≡ first_fault (line_fault kinds) 1 (lines l.fn.text);
      numbers : l.number + length l.line-iterator ≤ 67108865;
      small : l.settings.unknown + length l.line-iterator ≤ 67108864;
    }
