use Rattle.ks_fixdep.proofs.Prelude.{arith, common_steps}
use Rattle.ks_fixdep.proofs.CommandWriteLemmas.{text-parts, three-parts}
use Rattle.ks_fixdep.proofs.listing.record_text.Goals as goal

pub returns-clause-text : goal.returns-clause-text
returns-clause-text c = grind (arith, common_steps, three-parts, text-parts)
