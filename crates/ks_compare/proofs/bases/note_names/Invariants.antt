use Rattle.ks_compare.proofs.Prelude.{AreLegal, is_in}
use Rattle.ks_compare.proofs.BaseLemmas.{AreLeft}
use Rattle.std.specs.Prelude.{drop}
use Rattle.ks_compare.proofs.bases.note_names.Given as goal

abbrev pub invariant-loop-name : goal.invariant-loop-name
invariant-loop-name l = record {
  noted : AreLeft l.fn.draft l.draft (is_in (drop l.name-index l.names)) (is_in l.fn.names);
  legal : AreLegal l.draft;
}
