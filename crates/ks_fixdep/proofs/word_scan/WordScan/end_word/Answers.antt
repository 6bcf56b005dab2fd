use Rattle.ks_fixdep.proofs.Prelude.{arith, common_steps, nat_tests}
use Rattle.ks_fixdep.proofs.WordLemmas.{ended-long}
use Rattle.ks_fixdep.proofs.word_scan.WordScan.end_word.Goals as goal

pub returns-in_default-clause-knows : goal.returns-in_default-clause-knows
returns-in_default-clause-knows c = grind (arith, common_steps, nat_tests, ended-long)
