use Rattle.std.proofs.Common.{◌≡◌, ◌∙◌, ◌∷◌, sym, ap, rules, subst, true}
use Rattle.std.proofs.lemmas.Bool.{false≢true}
use Rattle.ks_hidden.specs.Texts.{is_mark}
use Rattle.ks_hidden.proofs.TextLemmas.{Rises, head_contained, head_least, mark_contained, mark_of, others_left, rising, tail_contains}
use Rattle.std.specs.List.{Contains}
use Rattle.ks_hidden.proofs.texts.find_of.Goals as goal

pub loop-at-init : goal.loop-at-init
loop-at-init c = rw (c.into_iter-at-iterator.ensures.into_iter_gives, c.memchr3_iter-at-items.ensures.value) record {
  each = mark_contained c.args.one c.args.other c.args.third c.args.text.now;
  all = λ k h. h;
  rise = rising _ c.args.text.now;
}

pub returns-then-is_mark : goal.returns-then-is_mark
returns-then-is_mark c =
    let here : is_mark c.args.text.now c.in-Some.at ≡ true = sym c.is_mark.ensures ∙ c.if-is_mark.true in
    let left : c.loop-at.at-iterator ≡ c.in-Some.at ∷ c.next.new.self = search rules in
    let rise : Rises (c.in-Some.at ∷ c.next.new.self) = subst Rises left c.loop-at.invariant.rise in
    let among = c.loop-at.invariant.all c.in-Some.at (rw left (head_contained c.in-Some.at c.next.new.self)) in (
      mark_of c.args.one c.args.other c.args.third c.args.text.now c.in-Some.at here among,
      λ k below is. head_least c.in-Some.at c.next.new.self rise k below (subst (λ ks. Contains ks k) left (c.loop-at.invariant.each k is)),
    )

pub loop-at-preserved : goal.loop-at-preserved
loop-at-preserved c =
    let left : c.loop-at.at-iterator ≡ c.in-Some.at ∷ c.next.new.self = search rules in
    let rise : Rises (c.in-Some.at ∷ c.next.new.self) = subst Rises left c.loop-at.invariant.rise in record {
      each = λ k is.
          others_left c.in-Some.at c.next.new.self k
          (λ same. false≢true (sym c.if-is_mark.false ∙ c.is_mark.ensures ∙ ap (is_mark c.args.text.now) same ∙ is.0))
          (subst (λ ks. Contains ks k) left (c.loop-at.invariant.each k is));
      all = λ k h. c.loop-at.invariant.all k (rw left (tail_contains c.in-Some.at c.next.new.self k h));
      rise = rise.1;
    }
