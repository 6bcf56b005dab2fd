use Rattle.ks_fixdep.proofs.Prelude.{arith, common_steps}
use Rattle.ks_fixdep.proofs.PlaceLemmas.{next-legal}
use Rattle.ks_fixdep.proofs.found_names.names_of_text.Goals as goal

pub note-requires : goal.note-requires
note-requires c = next-legal c.loop-next.left _ _ c.in-Some.ensures

pub loop-next-preserved : goal.loop-next-preserved
loop-next-preserved c = grind (arith, common_steps)
