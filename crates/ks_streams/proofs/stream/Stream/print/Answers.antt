use Rattle.ks_streams.proofs.Offering.{broken, printed}
use Rattle.ks_streams.proofs.stream.Stream.print.Goals as goal

pub returns-clause-whole : goal.returns-clause-whole
returns-clause-whole g c = λ yes. printed _ _ _ _ (c.write.ensures.whole c.if-not-write.false) (c.see_out.ensures.whole yes)

pub returns-clause-broken : goal.returns-clause-broken
returns-clause-broken g c = λ no. broken _ _ _ _ (c.write.ensures.whole c.if-not-write.false) (c.see_out.ensures.broken no)
