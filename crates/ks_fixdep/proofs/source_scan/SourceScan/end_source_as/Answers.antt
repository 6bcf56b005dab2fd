use Rattle.ks_fixdep.proofs.Prelude.{on_ok_weaker, arith, common_steps}
use Rattle.ks_fixdep.proofs.WordLemmas.{linux-places, names-whole}
use Rattle.ks_fixdep.proofs.source_scan.SourceScan.end_source_as.Goals as goal

pub returns-in-Linux-clause-found : goal.returns-in-Linux-clause-found
returns-in-Linux-clause-found c = grind (arith, common_steps, linux-places, on_ok_weaker)

pub returns-in-UBoot-clause-found : goal.returns-in-UBoot-clause-found
returns-in-UBoot-clause-found c = grind (arith, common_steps, names-whole, on_ok_weaker)

pub returns-in-BusyBox-clause-found : goal.returns-in-BusyBox-clause-found
returns-in-BusyBox-clause-found c = grind (arith, common_steps, names-whole, on_ok_weaker)

pub returns-in-Coreboot-clause-found : goal.returns-in-Coreboot-clause-found
returns-in-Coreboot-clause-found c = grind (arith, common_steps, names-whole, on_ok_weaker)
