use Rattle.ks_fixdep.proofs.Prelude.{bytes_eq-Decides, arith, common_steps}
use Rattle.ks_fixdep.proofs.TableLemmas.{any_at}
use Rattle.ks_fixdep.proofs.source_table.SourceTable.ends_with.Goals as goal

pub returns-in-Some-name_at : goal.returns-in-Some-name_at
returns-in-Some-name_at c = grind (arith, common_steps, bytes_eq-Decides, any_at)
