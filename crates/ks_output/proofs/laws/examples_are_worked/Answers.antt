use Rattle.ks_output.proofs.Prelude.{rules, is_name, unsetting, assignment, statement, class_remark, stated_by, first_faulty, heard, is_typed}
use Rattle.ks_output.proofs.Worked.{files_of_switches, faults_found}
use Rattle.ks_output.proofs.laws.examples_are_worked.Goals as goal

pub returns : goal.returns
unfolding stated_by class_remark statement assignment unsetting is_name is_typed heard first_faulty
returns c = search (rules, files_of_switches, faults_found)
