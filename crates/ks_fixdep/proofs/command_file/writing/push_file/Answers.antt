use Rattle.ks_fixdep.proofs.Prelude.{append-nil, arith, common_steps}
use Rattle.ks_fixdep.proofs.command_file.writing.push_file.Goals as goal

pub returns-clause-ok : goal.returns-clause-ok
returns-clause-ok c = grind (arith, common_steps, append-nil)
