use Rattle.ks_output.proofs.Prelude.{rules}
use Rattle.ks_output.proofs.Switches.{switch_ahead}
use Rattle.ks_output.proofs.auto_lines.split_switch.Goals as goal

pub returns-in-Some-Assigns : goal.returns-in-Some-Assigns
returns-in-Some-Assigns c = search (rules, switch_ahead)
