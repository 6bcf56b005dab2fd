use Rattle.ks_streams.proofs.Prelude.{Err, ap, sym, state_of}
use Rattle.ks_streams.proofs.Offering.{begun, ended, goes_on, left, written}
use Rattle.ks_streams.proofs.stream.Stream.write_part.Goals as goal

pub loop-done-init : goal.loop-done-init
loop-done-init g c = begun c.args.bytes.now (state_of g.W.Writer c.args.self.now) (sym c.if-is_unread.ensures)

pub loop-done-preserved : goal.loop-done-preserved
loop-done-preserved g c = goes_on c.loop-done.done c.in-Ok.count c.args.bytes.now _ _ _ c.loop-done.invariant c.in-Ok.ensures.within c.in-Ok.ensures.taken

pub returns-in-Err-NoReader-clause-whole : goal.returns-in-Err-NoReader-clause-whole
returns-in-Err-NoReader-clause-whole g c = λ yes.
    left _ c.args.bytes.now _ _ _ c.loop-done.invariant (c.in-Err-NoReader.ensures.unread (ap (λ f. Err f) c.in-Err-NoReader.field-0-is))

pub returns-in-Err-Failed-clause-broken : goal.returns-in-Err-Failed-clause-broken
returns-in-Err-Failed-clause-broken g c = λ no.
    ended _ c.args.bytes.now _ _ _ c.loop-done.invariant (c.in-Err-Failed.ensures.failed (ap (λ f. Err f) c.in-Err-Failed.field-0-is))

pub returns-in-Err-Interrupted-clause-broken : goal.returns-in-Err-Interrupted-clause-broken
returns-in-Err-Interrupted-clause-broken g c = λ no.
    ended _ c.args.bytes.now _ _ _ c.loop-done.invariant (c.in-Err-Interrupted.ensures.interrupted (ap (λ f. Err f) c.in-Err-Interrupted.field-0-is))

pub returns-clause-whole : goal.returns-clause-whole
returns-clause-whole g c = λ yes. written _ c.args.bytes.now _ _ c.loop-done.invariant c.loop-done-test.false
