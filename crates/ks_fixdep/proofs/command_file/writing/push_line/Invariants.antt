use Rattle.ks_fixdep.proofs.Prelude.{◌≡◌, ◌++◌, take, flat_map}
use Rattle.ks_fixdep.proofs.command_file.writing.push_line.Given as goal

-- what was written so far
abbrev pub invariant-loop-part : goal.invariant-loop-part
invariant-loop-part l = l.out.items ≡ l.fn.out.items ++ flat_map (λ p. p.now) (take l.part-index l.parts)
