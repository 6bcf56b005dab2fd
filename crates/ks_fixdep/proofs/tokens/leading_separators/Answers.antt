use Rattle.ks_fixdep.proofs.Prelude.{arith, prefix_len_is, is_separator, common_steps}
use Rattle.ks_fixdep.proofs.tokens.leading_separators.Goals as goal

pub returns-else-separates-clause-count : goal.returns-else-separates-clause-count
returns-else-separates-clause-count c = grind (arith, common_steps, prefix_len_is)

pub returns-after-loop-end-clause-count : goal.returns-after-loop-end-clause-count
returns-after-loop-end-clause-count c = let is = prefix_len_is is_separator c.args.text.now c.loop-end.end 0 in grind (arith, common_steps, is)
