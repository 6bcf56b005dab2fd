use Rattle.ks_fixdep.specs.CommandPatterns.{saved_command}
use Rattle.ks_symbols.specs.Names.{is_target}
use Rattle.ks_fixdep.proofs.Prelude.{arith, common_steps}
use Rattle.ks_fixdep.proofs.command_file.reading.saved_command.Goals as goal

pub returns-else-target_is_legal-clause-legal : goal.returns-else-target_is_legal-clause-legal
unfolding saved_command is_target
returns-else-target_is_legal-clause-legal c = grind (arith, common_steps)

pub returns-else-target_is_legal-clause-value : goal.returns-else-target_is_legal-clause-value
unfolding saved_command is_target
returns-else-target_is_legal-clause-value c = grind (arith, common_steps)

pub returns-then-command_is_legal-clause-legal : goal.returns-then-command_is_legal-clause-legal
unfolding saved_command is_target
returns-then-command_is_legal-clause-legal c = grind (arith, common_steps)

pub returns-then-command_is_legal-clause-value : goal.returns-then-command_is_legal-clause-value
unfolding saved_command is_target
returns-then-command_is_legal-clause-value c = grind (arith, common_steps)
