use Rattle.std.specs.Prelude.{refl}
use Rattle.ks_streams.proofs.Prelude.{subst, take, Appends}
use Rattle.ks_streams.proofs.Writing.{kept_of_nothing}
use Rattle.confstamp.proofs.standard.StandardWriter.write.Goals as goal

pub returns-in-Ok-eq0-clause-failed : goal.returns-in-Ok-eq0-clause-failed
returns-in-Ok-eq0-clause-failed g c = λ failed. c.refuse.ensures.failed refl _ _
    (kept_of_nothing _ _ (subst (λ n. Appends (g.W.Write.contents c.args.self.now.writer) (g.W.Write.contents c.write.new.self) (take n c.args.bytes.now))
    c.in-Ok-eq0.field-0-test c.in-Ok-eq0.ensures.bytes))
