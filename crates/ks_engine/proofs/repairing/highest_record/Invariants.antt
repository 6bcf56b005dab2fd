use Rattle.ks_engine.proofs.Prelude.{map, take}
use Rattle.ks_engine.specs.Repairs.{IsHighestRecord}
use Rattle.ks_tree.specs.Frames.{Reads}
use Rattle.ks_engine.proofs.repairing.highest_record.Given as goal

abbrev pub invariant-loop-target : goal.invariant-loop-target
invariant-loop-target g l = record {
  highest : g.T.Tree.is_honest → IsHighestRecord (g.T.Tree.files l.fn.tree) (map (λ t. t.now) (take l.target-index l.targets)) l.highest;
  reads : Reads g.T.Tree l.fn.tree l.tree ⊥;
}
