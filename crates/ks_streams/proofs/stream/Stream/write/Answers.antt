use Rattle.ks_streams.proofs.Prelude.{[], flat_map, subst, Takes, state_of, take_all}
use Rattle.ks_streams.proofs.Writing.{parts_broken, parts_more, takes_nothing}
use Rattle.ks_streams.proofs.stream.Stream.write.Goals as goal

pub loop-part-init : goal.loop-part-init
loop-part-init g c = takes_nothing (state_of g.W.Writer c.args.self.now)

pub returns-then-not-write_part-clause-broken : goal.returns-then-not-write_part-clause-broken
returns-then-not-write_part-clause-broken g c = λ no.
    parts_broken c.args.parts.now c.loop-part.part-index (record { ref_ptr = (0, 0); now = [] }) _ _ _ c.loop-part-test.true c.loop-part.invariant
    (c.write_part.ensures.broken c.if-not-write_part.true)

pub loop-part-preserved : goal.loop-part-preserved
loop-part-preserved g c =
    parts_more c.args.parts.now c.loop-part.part-index (record { ref_ptr = (0, 0); now = [] }) _ _ _ c.loop-part-test.true c.loop-part.invariant
    (c.write_part.ensures.whole c.if-not-write_part.false)

pub returns-clause-whole : goal.returns-clause-whole
returns-clause-whole g c = λ yes.
    subst (λ parts. Takes (flat_map (λ p. p.now) parts) (state_of g.W.Writer c.args.self.now) (state_of g.W.Writer c.loop-part.self))
    (take_all c.loop-part.part-index c.args.parts.now c.loop-part-test.false) c.loop-part.invariant
