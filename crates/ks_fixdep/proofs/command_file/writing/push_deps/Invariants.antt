use Rattle.ks_fixdep.proofs.Prelude.{◌≡◌, ◌++◌, take, map, flat_map, ended, dep_line}
use Rattle.ks_fixdep.proofs.command_file.writing.push_deps.Given as goal

-- what was written so far
abbrev pub invariant-loop-dep : goal.invariant-loop-dep
invariant-loop-dep l = l.out.items ≡ l.fn.out.items ++ flat_map ended (map dep_line (take l.dep-index l.deps))
