use Rattle.ks_output.proofs.Prelude.{length, stated_left}
use Rattle.ks_output.proofs.PositionSteps.{Runs}
use Rattle.ks_output.proofs.auto_conf.Lines.pass_all.Given as goal

abbrev pub invariant-remarks : goal.invariant-remarks
invariant-remarks l = Runs l.initial.generation l.initial.self l.self l.generation

abbrev pub decreases-remarks : goal.decreases-remarks
decreases-remarks l = length (stated_left l.self)
