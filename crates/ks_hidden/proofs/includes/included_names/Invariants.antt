use Rattle.std.proofs.Common.{◌≡◌, ◌++◌, length}
use Rattle.ks_hidden.specs.Includes.{included_names}
use Rattle.ks_hidden.specs.Words.{texts}
use Rattle.ks_hidden.proofs.includes.included_names.Given as goal

-- with the names in what is left they are all
abbrev pub invariant-loop-after : goal.invariant-loop-after
invariant-loop-after l = texts l.names.items ++ included_names l.rest ≡ included_names l.fn.text

abbrev pub decreases-loop-after : goal.decreases-loop-after
decreases-loop-after l = length l.rest
