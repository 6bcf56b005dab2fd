use Rattle.ks_compare.proofs.Prelude.{AreLegal, is_base_of}
use Rattle.ks_compare.proofs.BaseLemmas.{AreLeft}
use Rattle.std.specs.Prelude.{drop}
use Rattle.ks_compare.proofs.bases.note_bases.Given as goal

abbrev pub invariant-loop-name : goal.invariant-loop-name
invariant-loop-name l = record {
  noted : AreLeft l.fn.draft l.draft (is_base_of (drop l.name-index l.companions)) (is_base_of l.fn.companions);
  legal : AreLegal l.draft;
}
