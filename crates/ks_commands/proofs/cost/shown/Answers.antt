use Rattle.ks_commands.proofs.Prelude.{take-map, take_min, min_comm, rules}
use Rattle.ks_commands.proofs.cost.shown.Goals as goal

pub returns-in-Some : goal.returns-in-Some
returns-in-Some c = search (rules, min_comm, take_min, take-map)
