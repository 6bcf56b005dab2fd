use Rattle.ks_tree.proofs.Prelude.{◌∙◌, Some, sym, ap, subst, option_map, arith, content, HasNumber}
use Rattle.ks_tree.proofs.stamps.read_stamp.Goals as goal

pub returns-clause-refused : goal.returns-clause-refused
returns-clause-refused g c = λ honest.
    let path = c.deref.ensures.value ∙ c.in_ok-path.ensures.path in
    let at = sym (c.in_ok-stamp.ensures.found honest) ∙ ap (option_map (λ v. v.items)) c.in-Some.is ∙ ap (λ b. Some b) (sym c.deref-2.ensures.value) in (
      c.in_ok-new-in-None.ensures ∙ c.as_bytes.ensures.value,
      λ n has. c.in-None.ensures.none n (subst (λ f. HasNumber f n) (ap (content (g.T.Tree.files c.args.tree.now)) (sym path) ∙ at) has),
      λ large. let small = c.in_ok-stamp.ensures.small honest large.0 (rw path large.1) in let more = large.2 in omega arith,
    )
