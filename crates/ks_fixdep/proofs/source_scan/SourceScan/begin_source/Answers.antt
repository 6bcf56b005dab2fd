use Rattle.ks_fixdep.proofs.Prelude.{arith, common_steps, rules}
use Rattle.ks_fixdep.proofs.NameLemmas.{ended-nil}
use Rattle.ks_fixdep.proofs.WordLemmas.{stands-first}
use Rattle.ks_fixdep.proofs.source_scan.SourceScan.begin_source.Goals as goal

pub returns-clause-stands : goal.returns-clause-stands
returns-clause-stands c = grind (arith, common_steps, ended-nil)

pub returns-clause-under_rules : goal.returns-clause-under_rules
returns-clause-under_rules c = search (rules, stands-first, returns-clause-stands)
