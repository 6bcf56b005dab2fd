use Rattle.ks_fixdep.proofs.Prelude.{on_ok_weaker, append-nil, append_assoc, arith, common_steps}
use Rattle.ks_fixdep.proofs.command_file.writing.push_front.Goals as goal

pub returns-clause-ok : goal.returns-clause-ok
returns-clause-ok c = grind (arith, common_steps, on_ok_weaker, append-nil, append_assoc)
