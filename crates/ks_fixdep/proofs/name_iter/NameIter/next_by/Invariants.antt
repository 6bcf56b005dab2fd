use Rattle.ks_fixdep.proofs.Prelude.{◌≡◌, ◌-◌, length, names_left}
use Rattle.ks_fixdep.proofs.name_iter.NameIter.next_by.Given as goal

-- what is left to take is what was left at the start
abbrev pub invariant-loop-skipped : goal.invariant-loop-skipped
invariant-loop-skipped l = names_left l.self ≡ names_left l.fn.self

abbrev pub decreases-loop-skipped : goal.decreases-loop-skipped
decreases-loop-skipped l = length l.self.text.now - l.self.next_place
