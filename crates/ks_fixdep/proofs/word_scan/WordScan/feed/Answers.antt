use Rattle.ks_fixdep.proofs.Prelude.{take-add, arith, length-drop, take_rest, common_steps}
use Rattle.ks_fixdep.proofs.word_scan.WordScan.feed.Goals as goal

pub loop-place-preserved : goal.loop-place-preserved
loop-place-preserved c = grind (arith, common_steps, take_rest, length-drop, take-add)
