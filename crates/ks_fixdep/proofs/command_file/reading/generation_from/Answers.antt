use Rattle.ks_fixdep.proofs.Prelude.{arith, nat_tests, lines, generation_from, common_steps}
use Rattle.ks_fixdep.proofs.command_file.reading.generation_from.Goals as goal

pub returns-in_err-stated : goal.returns-in_err-stated
unfolding generation_from
returns-in_err-stated c = grind (arith, common_steps, nat_tests)

pub loop-rest-preserved : goal.loop-rest-preserved
unfolding generation_from
loop-rest-preserved c = grind (arith, common_steps, nat_tests)

pub returns : goal.returns
unfolding generation_from lines
returns c = grind (arith, common_steps, nat_tests)
