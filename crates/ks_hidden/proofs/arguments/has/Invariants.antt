use Rattle.std.proofs.Common.{◌≡◌, length}
use Rattle.ks_hidden.specs.Arguments.{has}
use Rattle.ks_hidden.proofs.arguments.has.Given as goal

abbrev pub invariant-loop-after : goal.invariant-loop-after
invariant-loop-after l = has l.rest l.part ≡ has l.fn.word l.part

abbrev pub decreases-loop-after : goal.decreases-loop-after
decreases-loop-after l = length l.rest
