use Rattle.ks_fixdep.proofs.Prelude.{◌≡◌, length, map, all_noted, names_left, bare_name}
use Rattle.ks_fixdep.proofs.source_scan.note_all.Given as goal

-- those so far are noted, and those that are left are still to be
abbrev pub invariant-loop-next : goal.invariant-loop-next
invariant-loop-next l = record {
  found : l.table.found ≡ l.fn.table.found;
  current : all_noted l.fn.table.current (map bare_name (names_left l.fn.names)) ≡ all_noted l.table.current (map bare_name (names_left l.names));
}

abbrev pub decreases-loop-next : goal.decreases-loop-next
decreases-loop-next l = length (names_left l.names)
