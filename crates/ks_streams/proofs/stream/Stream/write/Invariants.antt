use Rattle.ks_streams.proofs.Prelude.{flat_map, take, Takes, state_of}
use Rattle.ks_streams.proofs.stream.Stream.write.Given as goal

abbrev pub invariant-loop-part : goal.invariant-loop-part
invariant-loop-part g l = Takes (flat_map (λ p. p.now) (take l.part-index l.parts)) (state_of g.W.Writer l.fn.self) (state_of g.W.Writer l.self)
