use Rattle.ks_engine.proofs.Prelude.{◌≡◌, map, take, tally_pairs, seen_cost, tally_cost}
use Rattle.ks_engine.proofs.costs.all_costs.Given as goal

abbrev pub invariant-loop-place : goal.invariant-loop-place
invariant-loop-place l = map seen_cost l.costs.items ≡ map tally_cost (take l.place (tally_pairs l.tallies.entries))
