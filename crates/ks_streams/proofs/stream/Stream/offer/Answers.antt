use Rattle.ks_streams.proofs.Prelude.{Err, ap, state_of}
use Rattle.ks_streams.proofs.Offering.{failed_after, left_after, not_waiting, taken_after, waited, waits_more}
use Rattle.ks_streams.proofs.stream.Stream.offer.Goals as goal

pub loop-init : goal.loop-init
loop-init g c = not_waiting (state_of g.W.Writer c.args.self.now)

pub returns-in-Ok-clause-taken : goal.returns-in-Ok-clause-taken
returns-in-Ok-clause-taken g c = taken_after _ _ _ _ _ c.loop.invariant c.in-Ok.ensures.taken

pub returns-in-Err-NoReader-clause-unread : goal.returns-in-Err-NoReader-clause-unread
returns-in-Err-NoReader-clause-unread g c = λ is. left_after _ _ _ _ c.loop.invariant (c.in-Err-NoReader.ensures.unread (ap (λ f. Err f) c.in-Err-NoReader.field-0-is))

pub returns-in-Err-Failed-clause-failed : goal.returns-in-Err-Failed-clause-failed
returns-in-Err-Failed-clause-failed g c = λ is. failed_after _ _ _ _ c.loop.invariant (c.in-Err-Failed.ensures.failed (ap (λ f. Err f) c.in-Err-Failed.field-0-is))

pub loop-preserved : goal.loop-preserved
loop-preserved g c =
    waits_more _ _ _ _ c.loop-test.true c.loop.invariant (c.in-Err-Interrupted.ensures.interrupted (ap (λ f. Err f) c.in-Err-Interrupted.field-0-is))

pub returns-clause-interrupted : goal.returns-clause-interrupted
returns-clause-interrupted g c = λ is. waited _ _ _ c.loop-test.false c.loop.invariant
