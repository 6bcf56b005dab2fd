use Rattle.ks_fixdep.proofs.Prelude.{arith, common_steps}
use Rattle.ks_fixdep.proofs.command_file.writing.push_deps.Goals as goal

pub loop-dep-init : goal.loop-dep-init
loop-dep-init c = grind (arith, common_steps)

pub loop-dep-preserved : goal.loop-dep-preserved
loop-dep-preserved c = grind (arith, common_steps)

pub returns-clause-extends : goal.returns-clause-extends
returns-clause-extends c = grind (arith, common_steps)

pub returns-clause-ok : goal.returns-clause-ok
returns-clause-ok c = grind (arith, common_steps)
