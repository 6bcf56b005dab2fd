use Rattle.ks_fixdep.proofs.Prelude.{on_ok_weaker, append_assoc, arith, common_steps}
use Rattle.ks_fixdep.proofs.CommandWriteLemmas.{text-parts}
use Rattle.ks_fixdep.proofs.command_file.writing.push_command.Goals as goal

pub returns-clause-ok : goal.returns-clause-ok
returns-clause-ok c = on_ok_weaker c.push_back.result (λ ed. grind (arith, common_steps, append_assoc, text-parts)) c.push_back.ensures.ok
