use Rattle.ks_fixdep.proofs.Prelude.{arith, common_steps}
use Rattle.ks_fixdep.proofs.source_table.SourceTable.note_joined.Goals as goal

pub returns-clause-current : goal.returns-clause-current
returns-clause-current c = grind (arith, common_steps)

pub returns-clause-found : goal.returns-clause-found
returns-clause-found c = grind (arith, common_steps)
