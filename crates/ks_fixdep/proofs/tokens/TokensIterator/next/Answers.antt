use Rattle.ks_fixdep.proofs.Prelude.{take_rest, ◌-◌, take, drop, length, arith, nat_tests, common_steps}
use Rattle.ks_fixdep.proofs.TokenLemmas.{tokens-step, tokens-stop}
use Rattle.ks_fixdep.proofs.tokens.TokensIterator.next.Goals as goal

pub returns-then-is_empty-clause-steps : goal.returns-then-is_empty-clause-steps
returns-then-is_empty-clause-steps c =
    let t = c.args.self.now.rest.now in
    let s = c.leading_separators.result in
    let stops = tokens-stop t (take (length t - s) (drop s t)) s c.leading_others.result c.leading_separators.ensures.count
    (take_rest t s) c.leading_others.ensures.count in
    grind (arith, common_steps, nat_tests, stops)

pub returns-else-is_empty-clause-steps : goal.returns-else-is_empty-clause-steps
returns-else-is_empty-clause-steps c = grind (arith, common_steps, nat_tests, tokens-step, take_rest)

pub returns-else-is_empty-clause-goes : goal.returns-else-is_empty-clause-goes
returns-else-is_empty-clause-goes c = grind (arith, common_steps, returns-else-is_empty-clause-steps)
