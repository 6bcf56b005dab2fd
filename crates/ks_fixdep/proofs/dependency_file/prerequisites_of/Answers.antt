use Rattle.ks_fixdep.proofs.Prelude.{common_steps, ◌≡◌, rules, ◌++◌, ◌∷◌, map, length, sym, ap, ◌∙◌, arith, drop, suc, refl, YieldsList-from_first, YieldsList-end, YieldsList-turn, YieldsList-so_far, length-append, tokens, prerequisites_without}
use Rattle.ks_fixdep.proofs.RoleLemmas.{seen-push, faults-fit, tokens-length, refused-err, refused-through, source-next, other-next, none-kept, some-kept, parted}
use Rattle.ks_fixdep.proofs.dependency_file.prerequisites_of.Goals as goal
use Rattle.ks_fixdep.proofs.dependency_file.prerequisites_of.Goals.{In-None, In-Some}

-- the tokens of the text: those so far, this one, and the rest
parts : (c : In-Some) → tokens c.args.text.now
    ≡ map (λ x. x.now) c.loop-token.yielded ++ c.in-Some.token.now ∷ drop (suc (length c.loop-token.yielded)) (tokens c.args.text.now)
parts c =
    let all = tokens c.args.text.now in
    let xs = c.loop-token.yielded in
    let x = c.in-Some.token.now in
    let road = YieldsList-from_first (λ x. x.now) (λ s. tokens s.rest.now) {s = c.into_iter-token-iterator.result} all
    (ap (λ s. tokens s.rest.now) c.into_iter-token-iterator.ensures.into_iter_gives ∙ c.new-token-items.ensures) in
    let turn = YieldsList-turn road xs c.loop-token.token-iterator c.loop-token.yielded_by c.next.result c.next.new.self c.in-Some.token c.in-Some.is
    c.next.ensures.steps in
    parted all (length xs) x turn.0 turn.1 ∙ ap (λ l. l ++ x ∷ drop (suc (length xs)) all)
    (sym (YieldsList-so_far road xs c.loop-token.token-iterator c.loop-token.yielded_by))

-- in the end these are all tokens of the text
all_seen : (c : In-None) → map (λ x. x.now) c.loop-token.yielded ≡ tokens c.args.text.now
all_seen c =
    let road = YieldsList-from_first (λ x. x.now) (λ s. tokens s.rest.now) {s = c.into_iter-token-iterator.result} (tokens c.args.text.now)
    (ap (λ s. tokens s.rest.now) c.into_iter-token-iterator.ensures.into_iter_gives ∙ c.new-token-items.ensures) in
    (YieldsList-end road c.loop-token.yielded c.loop-token.token-iterator c.loop-token.yielded_by c.next.result c.next.new.self c.in-None.is
    c.next.ensures.steps).0

pub loop-token-init : goal.loop-token-init
loop-token-init c = record {
  stands = c.new-progress.ensures c.args.header;
  fits = refl;
}

pub take-requires : goal.take-requires
take-requires c =
    let is = parts (goal.at.take-requires c).In-Some in
    omega (arith, simp length-append at (ap length is), c.loop-token.invariant.stands.number, tokens-length c.args.text.now, c.requires)

pub loop-token-preserved : goal.loop-token-preserved
loop-token-preserved c = grind (arith, common_steps, seen-push, faults-fit)

pub returns-in_err-take-clause-refusal : goal.returns-in_err-take-clause-refusal
returns-in_err-take-clause-refusal c =
    let is = parts (goal.at.returns-in_err-take-clause-refusal c).In-Some in
    let refusal = c.in_err-take.ensures.refusal (map (λ x. x.now) c.loop-token.yielded) c.loop-token.invariant.stands in
    let through = refused-through c.args.header c.in_err-take.field-0.0 _ _ _ _ is c.loop-token.invariant.fits refusal in
    search (rules, refused-err)

pub returns-then-eq-clause-refusal : goal.returns-then-eq-clause-refusal
returns-then-eq-clause-refusal c = let all = all_seen (goal.at.returns-then-eq-clause-refusal c).In-None in search (rules, none-kept, source-next)

pub returns-clause-refusal : goal.returns-clause-refusal
returns-clause-refusal c = let all = all_seen (goal.at.returns-clause-refusal c).In-None in search (rules, some-kept, other-next)

pub returns-clause-value : goal.returns-clause-value
unfolding prerequisites_without
returns-clause-value c = let all = all_seen (goal.at.returns-clause-value c).In-None in cc (c.loop-token.invariant.stands.found)

pub invariant_of-result : goal.invariant_of-result
invariant_of-result c = grind (arith, common_steps, other-next)
