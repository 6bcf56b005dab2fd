use Rattle.ks_commands.proofs.Prelude.{◌≡◌, ◌++◌, flat_map, take, seen_cost, cost_line}
use Rattle.ks_commands.proofs.cost.write_costs.Given as goal

abbrev pub invariant-loop-cost : goal.invariant-loop-cost
invariant-loop-cost l = l.text.items ≡ l.initial.text.items ++ flat_map (λ c. cost_line (seen_cost c)) (take l.cost-index l.cost-items)
