use Rattle.ks_fixdep.proofs.Prelude.{arith, and_from, take-put_mid, list_all-append, common_steps}
use Rattle.ks_fixdep.proofs.partial_token.PartialToken.push.Goals as goal

pub invariant_of-self-2 : goal.invariant_of-self-2
invariant_of-self-2 c = grind (arith, common_steps, take-put_mid, list_all-append, and_from)
