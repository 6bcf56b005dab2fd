use Rattle.ks_fixdep.proofs.Prelude.{prefix_len_is, arith, is_word_byte, common_steps}
use Rattle.ks_fixdep.proofs.ScanLemmas.{word-passes}
use Rattle.ks_fixdep.proofs.runs.leading_word.Goals as goal
use Rattle.ks_fixdep.proofs.runs.leading_word.Goals.{then-loop-end-test+else-is_word, else-loop-end-test}

pub returns-clause-word : goal.returns-clause-word
returns-clause-word c =
    let is = prefix_len_is is_word_byte c.args.text.now c.loop-end.end 0 in
    grind (arith, common_steps, then-loop-end-test+else-is_word, else-loop-end-test, is)

pub returns-clause-passes : goal.returns-clause-passes
returns-clause-passes c = grind (arith, common_steps, word-passes, returns-clause-word)
