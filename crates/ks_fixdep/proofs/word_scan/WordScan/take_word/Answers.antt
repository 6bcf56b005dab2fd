use Rattle.ks_fixdep.proofs.Prelude.{arith, common_steps, rules}
use Rattle.ks_fixdep.proofs.ScanLemmas.{word-stops}
use Rattle.ks_fixdep.proofs.WordLemmas.{knows-pushed, word-more, word-taken}
use Rattle.ks_fixdep.proofs.word_scan.WordScan.take_word.Goals as goal

pub returns-then-head-rest-clause-knows : goal.returns-then-head-rest-clause-knows
returns-then-head-rest-clause-knows c = search (rules, word-taken, knows-pushed)

pub pass-requires : goal.pass-requires
pass-requires c = grind (arith, common_steps, word-stops)

pub returns-clause-knows : goal.returns-clause-knows
returns-clause-knows c = λ k knows. rw (word-more c.args.symbol_patterns.now k c.args.rest.now c.leading_word-head.result.now c.leading_word-head.ensures.word (omega arith))
    (c.in_ok-pass.ensures.knows _ (knows-pushed c.args.symbol_patterns.now k _ _ _ _ _ c.leading_word-head.ensures.passes c.push.ensures knows))
