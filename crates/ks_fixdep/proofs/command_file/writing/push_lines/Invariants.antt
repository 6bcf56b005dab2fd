use Rattle.ks_fixdep.proofs.Prelude.{◌≡◌, ◌++◌, take, flat_map, ended}
use Rattle.ks_fixdep.specs.CommandWriting.{joined}
use Rattle.ks_fixdep.proofs.command_file.writing.push_lines.Given as goal

-- what was written so far
abbrev pub invariant-loop-line : goal.invariant-loop-line
invariant-loop-line l = l.out.items ≡ l.fn.out.items ++ flat_map (λ x. ended (joined x.now)) (take l.line-index l.lines)
