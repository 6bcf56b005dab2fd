use Rattle.ks_compare.proofs.Prelude.{rules, ap, subst, ◌∙◌, ℕ, List, AreWithBases, changed_companions}
use Rattle.std.proofs.Common.{Vec, Global}
use Rattle.std.proofs.lemmas.List.{nil_from_length}
use Rattle.std.proofs.lemmas.Result.{IfOk-weaker}
use Rattle.ks_compare.proofs.BaseLemmas.{changes_alone, changes_by}
use Rattle.ks_compare.proofs.comparison.changed.Goals as goal

pub returns-then-is_empty : goal.returns-then-is_empty
returns-then-is_empty c =
    let these = c.in_ok-companions.ensures ∙ ap (changed_companions c.args.old.now.texts c.args.new.now.entries) c.deref.ensures.value in
    changes_alone _ _ _ _ c.in_ok-names.ensures these (nil_from_length _ (search rules))

pub returns : goal.returns
returns c =
    let these = c.in_ok-companions.ensures ∙ ap (changed_companions c.args.old.now.texts c.args.new.now.entries) c.deref.ensures.value in
    IfOk-weaker _ _ _ (λ (all : Vec (List ℕ) Global) is.
    changes_by _ _ _ _ all.items c.in_ok-names.ensures these (subst (λ names. AreWithBases names c.in_ok-companions.companions.items all.items) c.deref-2.ensures.value
    (subst (λ companions. AreWithBases c.deref-2.result.now companions all.items) c.deref-3.ensures.value is))) c.with_bases.ensures
