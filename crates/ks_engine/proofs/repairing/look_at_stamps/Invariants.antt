use Rattle.ks_engine.proofs.Prelude.{take}
use Rattle.ks_engine.specs.Repairs.{AreStamps}
use Rattle.ks_tree.specs.Frames.{Reads}
use Rattle.ks_engine.proofs.repairing.look_at_stamps.Given as goal

abbrev pub invariant-loop-name : goal.invariant-loop-name
invariant-loop-name g l = record {
  stamps : g.T.Tree.is_honest → AreStamps (g.T.Tree.files l.fn.tree) (take l.name-index l.names) l.lost.items l.highest;
  reads : Reads g.T.Tree l.fn.tree l.tree ⊥;
}
