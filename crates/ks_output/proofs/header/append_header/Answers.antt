use Rattle.ks_output.specs.Header.{header_text}
use Rattle.ks_output.proofs.Prelude.{arith, common_steps}
use Rattle.ks_output.proofs.header.append_header.Goals as goal

pub loop-name-init : goal.loop-name-init
unfolding header_text
loop-name-init c = grind (arith, common_steps)

pub loop-name-preserved : goal.loop-name-preserved
unfolding header_text
loop-name-preserved c = grind (arith, common_steps)

pub returns-clause-written : goal.returns-clause-written
unfolding header_text
returns-clause-written c = grind (arith, common_steps)

pub returns-clause-kept : goal.returns-clause-kept
unfolding header_text
returns-clause-kept c = grind (arith, common_steps)
