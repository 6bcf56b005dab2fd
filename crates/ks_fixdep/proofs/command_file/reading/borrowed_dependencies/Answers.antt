use Rattle.ks_fixdep.proofs.Prelude.{length-append, arith, append-nil, append_assoc, nat_tests, map-append, lines, deps_in, common_steps}
use Rattle.ks_fixdep.proofs.CommandStepLemmas.{drop-one}
use Rattle.ks_fixdep.proofs.command_file.reading.borrowed_dependencies.Goals as goal

pub returns-in_default-clause-deps : goal.returns-in_default-clause-deps
unfolding deps_in
returns-in_default-clause-deps c = grind (arith, common_steps, nat_tests, append-nil)

pub lines-preserved : goal.lines-preserved
unfolding deps_in
lines-preserved c = grind (arith, common_steps, nat_tests, map-append, length-append, append_assoc, drop-one)

pub returns-clause-deps : goal.returns-clause-deps
unfolding deps_in lines
returns-clause-deps c = grind (arith, common_steps, append-nil, nat_tests)
