use Rattle.ks_symbols.proofs.Prelude.{◌≡◌, ◌++◌, drop, option_map}
use Rattle.std.proofs.Common.{map as map_list}
use Rattle.std.specs.FinMap as map
use Rattle.ks_symbols.specs.WrittenValues.{indexed}
use Rattle.ks_symbols.proofs.written_values.rows_of.Given as goal

-- the rows so far, and what the values that are left give the symbols that are left, are what all values give
abbrev pub invariant-loop-value : goal.invariant-loop-value
invariant-loop-value l =
    l.rows ++ indexed (map_list (λ e. (e.0, e.1.0)) l.rest) (map_list (option_map (λ w. w.now)) (drop l.value-index l.written))
    ≡ indexed (map.entries l.fn.symbols.kinds) (map_list (option_map (λ w. w.now)) l.fn.written)
