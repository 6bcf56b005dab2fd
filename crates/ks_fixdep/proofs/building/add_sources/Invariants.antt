use Rattle.ks_fixdep.proofs.Prelude.{◌≡◌, take, found_of}
use Rattle.ks_fixdep.proofs.building.add_sources.Given as goal

abbrev pub invariant-loop-names : goal.invariant-loop-names
invariant-loop-names l = found_of l.all.scan ≡ take l.names-index l.found
