use Rattle.ks_fixdep.proofs.Prelude.{◌≡◌, length, map, all_noted, names_in, names_left, bare_name}
use Rattle.ks_fixdep.proofs.found_names.names_of_text.Given as goal

-- those so far are noted, and those that are left are still to be
abbrev pub invariant-loop-next : goal.invariant-loop-next
invariant-loop-next l = all_noted l.found (map bare_name (names_left l.left)) ≡ names_in l.text

abbrev pub decreases-loop-next : goal.decreases-loop-next
decreases-loop-next l = length (names_left l.left)
