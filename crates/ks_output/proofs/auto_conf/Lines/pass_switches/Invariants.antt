use Rattle.ks_output.proofs.Prelude.{◌≡◌, length, stated_left, PassedEntries}
use Rattle.ks_output.specs.declared.positions.Position.TheVariants as position
use Rattle.ks_output.proofs.auto_conf.Lines.pass_switches.Given as goal

abbrev pub invariant-switches : goal.invariant-switches
invariant-switches l = PassedEntries l.initial.self l.self × (l.self.position ≡ position.Typed)

abbrev pub decreases-switches : goal.decreases-switches
decreases-switches l = length (stated_left l.self)
