use Rattle.ks_output.proofs.Prelude.{ap, length, arith, common_steps, rules, inr}
use Rattle.std.proofs.lemmas.Result.{err_from_is_err_and}
use Rattle.ks_output.specs.Written.{pairs_of, with_pairs}
use Rattle.ks_output.proofs.WrittenPairs.{undefined, undeclared, ended, goes_on, taken_wrong}
use Rattle.ks_output.proofs.SeenLemmas.{nothing_seen}
use Rattle.ks_output.proofs.written.read_pairs.Goals as goal

pub loop-line-init : goal.loop-line-init
loop-line-init c = record { pairs = search rules; seen = nothing_seen _ _ (search rules) (search rules); numbers = search rules; small = grind (arith, common_steps) }

pub returns-in_default-clause-refused : goal.returns-in_default-clause-refused
unfolding pairs_of
returns-in_default-clause-refused c = inr (search (rules, undefined, c.loop-line.invariant.pairs))

pub returns-in_err-take-clause-refused : goal.returns-in_err-take-clause-refused
unfolding pairs_of with_pairs
returns-in_err-take-clause-refused c = search (rules, err_from_is_err_and, taken_wrong, c.loop-line.invariant.pairs)

pub loop-line-preserved : goal.loop-line-preserved
loop-line-preserved c = record {
  pairs = search (rules, goes_on, c.loop-line.invariant.pairs);
  seen = search rules;
  numbers = omega (arith, ap length c.in-Some.ensures.steps);
  small = c.loop-line.invariant.small;
}

pub returns-then-is_some-clause-refused : goal.returns-then-is_some-clause-refused
unfolding pairs_of
returns-then-is_some-clause-refused c = inr (search (rules, undeclared, c.loop-line.invariant.pairs))

pub returns-clause-read : goal.returns-clause-read
unfolding pairs_of
returns-clause-read c = search (rules, ended, c.loop-line.invariant.pairs)
