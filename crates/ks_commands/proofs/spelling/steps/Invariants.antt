use Rattle.ks_commands.proofs.Prelude.{◌≡◌, flat_map, map, take, step}
use Rattle.ks_commands.proofs.spelling.steps.Given as goal

abbrev pub invariant-loop-part : goal.invariant-loop-part
invariant-loop-part l = l.text.items ≡ flat_map step (map (λ p. p.now) (take l.part-index l.part-items))
