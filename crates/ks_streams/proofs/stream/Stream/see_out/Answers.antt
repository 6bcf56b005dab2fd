use Rattle.ks_streams.proofs.Prelude.{Err, ap, sym, state_of}
use Rattle.ks_streams.proofs.Offering.{breaks_aborted, prints_left, prints_seen, prints_unread}
use Rattle.ks_streams.proofs.stream.Stream.see_out.Goals as goal

pub returns-then-is_unread-clause-whole : goal.returns-then-is_unread-clause-whole
returns-then-is_unread-clause-whole g c = λ yes. prints_unread (state_of g.W.Writer c.args.self.now) (sym c.if-is_unread.ensures)

pub returns-in-Ok-clause-whole : goal.returns-in-Ok-clause-whole
returns-in-Ok-clause-whole g c = λ yes. prints_seen _ _ c.in-Ok.ensures.seen_out

pub returns-in-Err-NoReader-clause-whole : goal.returns-in-Err-NoReader-clause-whole
returns-in-Err-NoReader-clause-whole g c = λ yes. prints_left _ _ (c.in-Err-NoReader.ensures.unread (ap (λ f. Err f) c.in-Err-NoReader.field-0-is))

pub returns-in-Err-Failed-clause-broken : goal.returns-in-Err-Failed-clause-broken
returns-in-Err-Failed-clause-broken g c = λ no.
    breaks_aborted _ _ (sym c.if-is_unread.ensures) (c.in-Err-Failed.ensures.failed (ap (λ f. Err f) c.in-Err-Failed.field-0-is))

pub returns-in-Err-Interrupted-clause-broken : goal.returns-in-Err-Interrupted-clause-broken
returns-in-Err-Interrupted-clause-broken g c = λ no.
    breaks_aborted _ _ (sym c.if-is_unread.ensures) (c.in-Err-Interrupted.ensures.interrupted (ap (λ f. Err f) c.in-Err-Interrupted.field-0-is))
