use Rattle.ks_fixdep.proofs.Prelude.{arith, common_steps, last_word}
use Rattle.ks_fixdep.proofs.StreamLemmas.{taken-finish}
use Rattle.ks_fixdep.proofs.scanner.Scanner.finish.Goals as goal

pub returns : goal.returns
unfolding last_word
returns c = grind (arith, common_steps, taken-finish)
