use Rattle.ks_fixdep.proofs.Prelude.{on_ok_weaker, arith, common_steps}
use Rattle.ks_fixdep.proofs.NameLemmas.{ended-nil, names-whole}
use Rattle.ks_fixdep.proofs.source_scan.SourceScan.end_source.Goals as goal

pub returns-clause-stands : goal.returns-clause-stands
returns-clause-stands c = grind (arith, common_steps, on_ok_weaker, ended-nil)

pub returns-clause-found : goal.returns-clause-found
returns-clause-found c = grind (arith, common_steps, names-whole, on_ok_weaker)
