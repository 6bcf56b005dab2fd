use Rattle.ks_symbols.specs.Names.{is_target}
use Rattle.ks_fixdep.proofs.Prelude.{arith, common_steps}
use Rattle.ks_fixdep.proofs.command_file.owning.own_command.Goals as goal

pub returns : goal.returns
unfolding is_target
returns c = grind (arith, common_steps)
