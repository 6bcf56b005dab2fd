use Rattle.ks_output.proofs.Prelude.{◌+◌, ◌≤◌, definitions_capacity}
use Rattle.std.specs.FinMap as map
use Rattle.ks_output.proofs.header.definitions_capacity.Given as goal

-- the room so far, with that of the entries that are left, is no more than that of all
abbrev pub invariant-loop-name : goal.invariant-loop-name
invariant-loop-name l = l.capacity + definitions_capacity l.name-iterator ≤ definitions_capacity (map.entries l.fn.settings.entries)
