use Rattle.ks_fixdep.proofs.Prelude.{◌≡◌, drop, flat_map, bytes_eq}
use Rattle.ks_fixdep.proofs.command_file.reading.is_joined.Given as goal

-- what is left of the line is what is left of the parts if the whole is the whole
abbrev pub invariant-loop-part : goal.invariant-loop-part
invariant-loop-part l = bytes_eq l.rest (flat_map (λ p. p.now) (drop l.part-index l.parts)) ≡ bytes_eq l.line (flat_map (λ p. p.now) l.parts)
