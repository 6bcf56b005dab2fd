use Rattle.ks_fixdep.proofs.Prelude.{arith, common_steps}
use Rattle.ks_fixdep.proofs.ScanLemmas.{name_of_word-legal}
use Rattle.ks_fixdep.proofs.partial_token.PartialToken.name.Goals as goal

pub returns-clause-legal : goal.returns-clause-legal
returns-clause-legal c = grind (arith, common_steps, name_of_word-legal)
