use Rattle.ks_fixdep.proofs.Prelude.{take_rest, arith, common_steps}
use Rattle.ks_fixdep.proofs.StreamLemmas.{last_word-at}
use Rattle.ks_fixdep.proofs.runs.trailing_word.Goals as goal
use Rattle.ks_fixdep.proofs.runs.trailing_word.Goals.{then-loop-start-test+else-is_word, else-loop-start-test}

pub returns-clause-word : goal.returns-clause-word
returns-clause-word c = grind (arith, common_steps, then-loop-start-test+else-is_word, else-loop-start-test, take_rest, last_word-at)
