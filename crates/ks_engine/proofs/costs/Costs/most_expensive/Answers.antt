use Rattle.ks_engine.proofs.Prelude.{ranks_by, always_returns_same, rules, is_lt, by_cost, seen_cost}
use Rattle.ks_engine.proofs.Tallying.{are_costs, cost_total}
use Rattle.ks_engine.proofs.costs.Costs.most_expensive.Goals as goal

pub returns : goal.returns
returns c =
    are_costs c.args.self.now c.in_ok-costs.costs.items c.sort_by.new.self.items c.requires c.in_ok-costs.ensures c.sort_by.ensures.permutation
    (c.in_ok-sort_by.ensures.sorted (λ x y. is_lt (by_cost (seen_cost x) (seen_cost y))) (ranks_by cost_total seen_cost)
    (always_returns_same _ _ _ (λ a r f' k. search rules)))
