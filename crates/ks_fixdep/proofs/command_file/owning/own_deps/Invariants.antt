use Rattle.ks_fixdep.proofs.Prelude.{◌≡◌, map, take, seen_dep}
use Rattle.ks_fixdep.proofs.command_file.owning.own_deps.Given as goal

abbrev pub invariant-loop-dep : goal.invariant-loop-dep
invariant-loop-dep l = l.owned.items ≡ map seen_dep (take l.dep-index l.deps)
