use Rattle.std.proofs.Common.{rules}
use Rattle.ks_hidden.specs.HeaderLines.{lacks}
use Rattle.ks_hidden.proofs.lacking.lacks_definition.Goals as goal

pub loop-name-init : goal.loop-name-init
unfolding lacks
loop-name-init c = search rules
