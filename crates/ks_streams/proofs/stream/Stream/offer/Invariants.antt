use Rattle.ks_streams.proofs.Prelude.{state_of}
use Rattle.ks_streams.proofs.Offering.{IsWaiting}
use Rattle.ks_streams.proofs.stream.Stream.offer.Given as goal

abbrev pub invariant-loop : goal.invariant-loop
invariant-loop g l = IsWaiting l.counter (state_of g.W.Writer l.fn.self) (state_of g.W.Writer l.self)
