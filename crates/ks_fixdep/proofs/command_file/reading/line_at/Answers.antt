use Rattle.ks_fixdep.proofs.Prelude.{arith, nat_tests, lines, common_steps}
use Rattle.ks_fixdep.proofs.command_file.reading.line_at.Goals as goal

pub returns-then-is_empty-clause-value : goal.returns-then-is_empty-clause-value
unfolding lines
returns-then-is_empty-clause-value c = grind (arith, common_steps, nat_tests)
