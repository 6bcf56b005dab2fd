use Rattle.ks_fixdep.proofs.Prelude.{◌≡◌, ◌+◌, ◌++◌, ◌∷◌, [], append_assoc, ap, length-append, sym, take, ◌∙◌, arith, true, false, get_or, list_any, and_from, not-true, not-false, fold-append, take_all, take_more, list_all-append, all_noted, names_at, common_steps}
use Rattle.std.proofs.Common.{nat_eq}
use Rattle.ks_fixdep.proofs.DepsLemmas.{name_line-last, new_is}
use Rattle.ks_fixdep.proofs.TableLemmas.{at_none, at_pushed, at_put}
use Rattle.ks_fixdep.proofs.listing.push_new_names.Goals.{then-branch+in_ok-push_name, else-branch}
use Rattle.ks_fixdep.proofs.listing.push_new_names.Goals as goal

pub loop-place-preserved-in_default : goal.loop-place-preserved-in_default
loop-place-preserved-in_default c = grind (arith, common_steps, take_more, at_none)

pub loop-place-preserved : goal.loop-place-preserved
loop-place-preserved c =
    let names = c.args.table.now.names in
    let i = c.loop-place.invariant in
    let places = c.args.places.now in
    let at = c.loop-place.place-index in
    let p = get_or places at 0 in
    let x = c.in-Some.name.now in
    let is = sym c.in-Some.ensures.value in
    let next = ap (names_at names) (take_more places at 0 c.loop-place-test.true) ∙ at_pushed names p x is c.in-Some.ensures.only (take at places) in
    let put = ap (names_at names) c.in_ok-insert.ensures.added ∙ at_put names p x is c.in-Some.ensures.only c.loop-place.listed in
    let pushed = at_pushed names p x is c.in-Some.ensures.only c.loop-place.listed in
    let noted_next : names_at names c.insert.new.self ≡ all_noted (names_at names c.args.listed.now) (names_at names (take (at + 1) places))
    = grind (arith, common_steps, fold-append) in
    elim c.if-branch.branch [
      | then-branch+in_ok-push_name w ↦ (
          let absent : list_any (nat_eq p) c.loop-place.listed ≡ false = not-true _ (sym c.in_ok-insert.ensures.was_new ∙ w.if-branch.true) in
          record {
            new = i.new ++ x ∷ [];
            listed = grind (arith, common_steps, append_assoc);
            noted = noted_next;
            text = grind (arith, common_steps, append_assoc, name_line-last);
            many = grind (arith, common_steps, length-append);
            legal = grind (arith, common_steps, list_all-append, and_from);
          })
      | else-branch w ↦ (
          let there : list_any (nat_eq p) c.loop-place.listed ≡ true = not-false _ (sym c.in_ok-insert.ensures.was_new ∙ w.if-branch.false) in
          record {
            new = i.new;
            listed = grind (arith, common_steps);
            noted = noted_next;
            text = grind (arith, common_steps);
            many = grind (arith, common_steps);
            legal = i.legal;
          })
    ]

pub returns-clause-text : goal.returns-clause-text
returns-clause-text c = grind (arith, common_steps, new_is, take_all)

pub returns-clause-many : goal.returns-clause-many
returns-clause-many c = grind (arith, common_steps, new_is, take_all)

pub returns-clause-legal : goal.returns-clause-legal
returns-clause-legal c = grind (arith, common_steps, new_is, take_all)
