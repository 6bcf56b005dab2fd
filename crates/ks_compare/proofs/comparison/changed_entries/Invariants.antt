use Rattle.ks_compare.proofs.Prelude.{◌≡◌, filter_map, borrowed_entry, borrowed_old_entry}
use Rattle.ks_compare.proofs.Merge.{name_of}
use Rattle.ks_compare.proofs.comparison.changed_entries.Given as goal

-- the names so far are those of the pairs so far
abbrev pub invariant-loop-pair : goal.invariant-loop-pair
invariant-loop-pair l = l.names.items ≡ filter_map (name_of borrowed_old_entry borrowed_entry) l.yielded
