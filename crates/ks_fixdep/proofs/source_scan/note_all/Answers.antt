use Rattle.ks_fixdep.proofs.Prelude.{arith, common_steps}
use Rattle.ks_fixdep.proofs.PlaceLemmas.{next-legal}
use Rattle.ks_fixdep.proofs.source_scan.note_all.Goals as goal

pub note-requires : goal.note-requires
note-requires c = next-legal c.loop-next.names _ _ c.in-Some.ensures

pub loop-next-preserved : goal.loop-next-preserved
loop-next-preserved c = grind (arith, common_steps)
