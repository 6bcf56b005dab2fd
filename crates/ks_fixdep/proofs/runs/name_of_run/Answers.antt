use Rattle.ks_fixdep.proofs.Prelude.{arith, nat_tests, common_steps}
unfoldable use Rattle.ks_fixdep.specs.Scan.{name_of}
unfoldable use Rattle.ks_symbols.specs.Names.{is_name}
use Rattle.ks_fixdep.proofs.RunLemmas.{list_all-less}
use Rattle.ks_fixdep.proofs.runs.name_of_run.Goals as goal
use Rattle.ks_fixdep.proofs.runs.name_of_run.Goals.{then-is_empty-via-then-is_empty, then-is_empty-via-else-is_empty+then-name-gt-LONGEST_NAME}

pub returns-then-is_empty : goal.returns-then-is_empty
unfolding name_of is_name
returns-then-is_empty c = grind (arith, common_steps, nat_tests, then-is_empty-via-then-is_empty, then-is_empty-via-else-is_empty+then-name-gt-LONGEST_NAME)

pub returns : goal.returns
unfolding name_of is_name
returns c = grind (arith, common_steps, nat_tests, (list_all-less c.args.run.now c.requires))
