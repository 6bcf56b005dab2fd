use Rattle.ks_requests.proofs.Prelude.{refl}
use Rattle.ks_requests.proofs.inputs.read_named.Goals as goal

pub returns-in_ok-read_given-in-Some-clause-once : goal.returns-in_ok-read_given-in-Some-clause-once
returns-in_ok-read_given-in-Some-clause-once g c =
    rw (c.in-Some.is, ← c.as_bytes.ensures.value) (c.read_given.new.tree, c.in_ok-read_given-in-Some.ensures.once, refl)
