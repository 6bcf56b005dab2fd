use Rattle.ks_fixdep.proofs.Prelude.{append_assoc, refl}
use Rattle.ks_fixdep.proofs.rule.push_own_stamp.Goals as goal

pub returns : goal.returns
returns c = simp (c.in_ok-extend_from_slice-2.ensures.items, c.in_ok-extend_from_slice.ensures.items, append_assoc) refl
