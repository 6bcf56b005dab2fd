use Rattle.std.proofs.Common.{◌≡◌, length}
use Rattle.ks_hidden.specs.Includes.{without_spaces}
use Rattle.ks_hidden.proofs.includes.without_spaces.Given as goal

abbrev pub invariant-loop-first : goal.invariant-loop-first
invariant-loop-first l = without_spaces l.rest ≡ without_spaces l.fn.text

abbrev pub decreases-loop-first : goal.decreases-loop-first
decreases-loop-first l = length l.rest
