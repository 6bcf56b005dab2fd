use Rattle.std.proofs.Common.{◌++◌, ◌∷◌, ◌+◌, ◌≤◌, ◌∙◌, [], ℕ, Bor, List, ap, arith, drop, length, length-drop, map, subst, sym, take}
use Rattle.std.proofs.lemmas.List.{length-map, take_rest}
use Rattle.std.proofs.lemmas.List.Sums.{fold-append}
use Rattle.ks_session.specs.GlobalOptions.{Spells, SpellsAll, nothing, stated, seen_option}
use Rattle.ks_session.proofs.GlobalOptionsLemmas.{rest_after, spelled_more}
use Rattle.ks_session.proofs.global_options.parse_global_options.Goals as goal

within : (args : List (Bor (List ℕ))) (at count : ℕ) → at ≤ length args → count ≤ length (map (λ w. w.now) (drop at args)) → at + count ≤ length args
within args at count before fits = omega (arith, before, fits, length-map (drop at args) (λ w. w.now), length-drop at args)

pub loop-at-preserved : goal.loop-at-preserved
loop-at-preserved c =
    let args = c.args.args.now in
    let at = c.loop-at.at in
    let count = c.in-Option.count in
    let option = seen_option c.in-Option.option in
    let options = c.loop-at.invariant.1 in
    let rest = take_rest args at in (
      within args at count c.loop-at.invariant.0 (subst (λ l. count ≤ length (map (λ w. w.now) l)) rest c.in-Option.ensures.2),
      options ++ option ∷ [],
      subst (SpellsAll (map (λ w. w.now) args) (options ++ option ∷ [])) (rest_after args at count)
          (spelled_more (map (λ w. w.now) args) options (map (λ w. w.now) (drop at args)) count option c.loop-at.invariant.2
          (subst (λ l. Spells (take count (map (λ w. w.now) l)) option) rest c.in-Option.ensures.0)),
      c.in_ok-take_over-in-Option.ensures ∙ ap (λ s. stated s option) c.loop-at.invariant.3 ∙ sym (fold-append stated nothing options (option ∷ [])),
    )
