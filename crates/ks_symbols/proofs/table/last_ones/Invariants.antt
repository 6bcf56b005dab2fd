use Rattle.ks_symbols.proofs.Prelude.{◌≡◌, ◌++◌, length, entry_in, stated_in, last_ones}
use Rattle.std.proofs.Common.{map as map_list}
use Rattle.ks_symbols.proofs.table.last_ones.Given as goal

-- what is kept so far and what the rest leaves are what the whole leaves
abbrev pub invariant-loop-first : goal.invariant-loop-first
invariant-loop-first g l =
    map_list (entry_in l.bytes) l.kept.items ++ last_ones (map_list (stated_in l.bytes) l.rest) ≡ last_ones (map_list (stated_in l.bytes) l.fn.records)

abbrev pub decreases-loop-first : goal.decreases-loop-first
decreases-loop-first g l = length l.rest
