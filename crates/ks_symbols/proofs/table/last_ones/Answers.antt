use Rattle.ks_symbols.proofs.Prelude.{append_assoc, arith, cond-true, cond-false, map-append, last_ones, rules, common_steps}
use Rattle.ks_symbols.proofs.table.last_ones.Goals as goal

pub loop-first-preserved-in_ok-push : goal.loop-first-preserved-in_ok-push
unfolding last_ones
loop-first-preserved-in_ok-push g c = search (rules, cond-false, c.in_ok-push.ensures.items, map-append, append_assoc, c.in-Some-value.is)

pub loop-first-preserved-in_default-value : goal.loop-first-preserved-in_default-value
unfolding last_ones
loop-first-preserved-in_default-value g c = grind (arith, common_steps, cond-false)

pub loop-first-preserved : goal.loop-first-preserved
unfolding last_ones
loop-first-preserved g c = grind (arith, common_steps, cond-true)

pub returns : goal.returns
unfolding last_ones
returns g c = grind (arith, common_steps)
