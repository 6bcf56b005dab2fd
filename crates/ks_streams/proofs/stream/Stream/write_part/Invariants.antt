use Rattle.ks_streams.proofs.Prelude.{◌-◌, length, state_of}
use Rattle.ks_streams.proofs.Offering.{IsWriting}
use Rattle.ks_streams.proofs.stream.Stream.write_part.Given as goal

abbrev pub invariant-loop-done : goal.invariant-loop-done
invariant-loop-done g l = IsWriting l.done l.bytes (state_of g.W.Writer l.fn.self) (state_of g.W.Writer l.self)

abbrev pub decreases-loop-done : goal.decreases-loop-done
decreases-loop-done g l = length l.bytes - l.done
