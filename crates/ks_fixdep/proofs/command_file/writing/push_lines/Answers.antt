use Rattle.ks_fixdep.proofs.Prelude.{arith, common_steps}
use Rattle.ks_fixdep.proofs.command_file.writing.push_lines.Goals as goal

pub loop-line-init : goal.loop-line-init
loop-line-init c = grind (arith, common_steps)

pub loop-line-preserved : goal.loop-line-preserved
loop-line-preserved c = grind (arith, common_steps)

pub returns-clause-extends : goal.returns-clause-extends
returns-clause-extends c = grind (arith, common_steps)

pub returns-clause-ok : goal.returns-clause-ok
returns-clause-ok c = grind (arith, common_steps)
