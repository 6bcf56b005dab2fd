use Rattle.ks_compare.proofs.Prelude.{rules, all_entries, sym, subst, ◌∙◌, AllEntries, IsTrue, is_name}
use Rattle.ks_compare.proofs.bases.names_of.Goals as goal

pub loop-name-init : goal.loop-name-init
loop-name-init c = record {
  names = search rules;
  legal = subst (AllEntries (λ n _. IsTrue (is_name n))) (sym (c.into_iter-name-iterator.ensures.into_iter_gives ∙ c.rows-name-items.ensures))
      (all_entries (λ n _. IsTrue (is_name n)) c.args.table.now c.requires);
}
