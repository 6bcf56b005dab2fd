use Rattle.ks_symbols.proofs.Prelude.{◌≡◌, ◌≤◌, ℕ, List, length, take, option_map, or_else, seen, first_kind, without_text}
use Rattle.std.proofs.Common.{map as map_list}
use Rattle.std.specs.FinMap as map
use Rattle.ks_symbols.proofs.kconfig.first_kinds.Given as goal

-- what the declarations before this place say first, and else those after it
abbrev pub invariant-loop-index : goal.invariant-loop-index
invariant-loop-index l = record {
  within : l.index ≤ length l.declared;
  kinds : (x : List ℕ) → or_else (option_map without_text (first_kind (map_list seen (take l.index l.declared)) x)) (map.get l.kinds x)
      ≡ option_map without_text (first_kind (map_list seen l.declared) x);
}

abbrev pub decreases-loop-index : goal.decreases-loop-index
decreases-loop-index l = l.index
