use Rattle.ks_output.proofs.Prelude.{rules}
use Rattle.ks_output.proofs.Switches.{switch_passed}
use Rattle.ks_output.proofs.auto_lines.after_switch.Goals as goal

pub returns-in-Some : goal.returns-in-Some
returns-in-Some c =
    let (legal, spelled, room) = c.in-Some.ensures in
    switch_passed c.args.text.now _ c.in-Some.rest.now legal spelled (search rules)
