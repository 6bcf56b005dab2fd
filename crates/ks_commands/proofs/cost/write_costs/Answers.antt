use Rattle.ks_commands.proofs.Prelude.{flat_map-map, arith, common_steps}
use Rattle.ks_commands.proofs.cost.write_costs.Goals as goal

pub returns : goal.returns
returns c = grind (arith, common_steps, flat_map-map)
