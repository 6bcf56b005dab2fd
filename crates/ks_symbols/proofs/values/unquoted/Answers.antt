use Rattle.ks_symbols.proofs.Prelude.{cond-false, take_rest, unquoted, unquoted_rest, arith, common_steps, rules, bytes_decides}
use Rattle.ks_symbols.proofs.values.unquoted.Goals as goal

pub returns-then-not-starts_with : goal.returns-then-not-starts_with
unfolding unquoted
returns-then-not-starts_with c = search (rules, cond-false)

pub loop-rest-init : goal.loop-rest-init
unfolding unquoted
loop-rest-init c = grind (arith, common_steps, take_rest)

pub returns-then-eq : goal.returns-then-eq
unfolding unquoted_rest
returns-then-eq c = grind (arith, common_steps, bytes_decides)

pub returns-else-eq : goal.returns-else-eq
unfolding unquoted_rest
returns-else-eq c = grind (arith, common_steps, bytes_decides)
