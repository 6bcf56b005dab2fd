use Rattle.ks_symbols.proofs.Prelude.{take_rest, after_quote, arith, common_steps}
use Rattle.ks_symbols.proofs.line_kinds.after_quote.Goals as goal
use Rattle.ks_symbols.proofs.line_kinds.after_quote.Goals.{then-loop-rest-test+else-rest-ne34, else-loop-rest-test}

pub loop-rest-preserved-then-rest-eq92 : goal.loop-rest-preserved-then-rest-eq92
unfolding after_quote
loop-rest-preserved-then-rest-eq92 c = grind (arith, common_steps, take_rest)

pub loop-rest-preserved : goal.loop-rest-preserved
unfolding after_quote
loop-rest-preserved c = grind (arith, common_steps, take_rest)

pub returns-then-starts_with : goal.returns-then-starts_with
unfolding after_quote
returns-then-starts_with c = grind (arith, common_steps, then-loop-rest-test+else-rest-ne34, else-loop-rest-test, take_rest)

pub returns-else-starts_with : goal.returns-else-starts_with
unfolding after_quote
returns-else-starts_with c = grind (arith, common_steps, then-loop-rest-test+else-rest-ne34, else-loop-rest-test)
