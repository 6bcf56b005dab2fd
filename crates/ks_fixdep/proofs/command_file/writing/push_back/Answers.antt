use Rattle.ks_fixdep.proofs.Prelude.{on_ok_weaker, append_assoc, flat_map-append, arith, common_steps}
use Rattle.ks_fixdep.proofs.command_file.writing.push_back.Goals as goal

pub returns-clause-ok : goal.returns-clause-ok
returns-clause-ok c = grind (arith, common_steps, on_ok_weaker, append_assoc, flat_map-append)
