use Rattle.ks_output.proofs.Prelude.{ap, length, arith, common_steps, rules, inr}
use Rattle.std.proofs.lemmas.Result.{err_from_is_err_and}
use Rattle.ks_output.specs.Blocks.{with_lines}
use Rattle.ks_output.proofs.BlockSteps.{goes_on, taken_wrong, ended, undeclared}
use Rattle.ks_output.proofs.blocks.read_lines.Goals as goal

pub loop-line-init : goal.loop-line-init
loop-line-init c = record { lines = search rules; numbers = search rules; small = grind (arith, common_steps) }

pub returns-in_err-next-clause-refused : goal.returns-in_err-next-clause-refused
unfolding with_lines
returns-in_err-next-clause-refused c = search (rules, err_from_is_err_and, taken_wrong, c.loop-line.invariant.lines)

pub loop-line-preserved : goal.loop-line-preserved
loop-line-preserved c = record {
  lines = search (rules, goes_on, c.loop-line.invariant.lines);
  numbers = omega (arith, ap length c.in-Some.ensures.steps);
  small = c.loop-line.invariant.small;
}

pub returns-then-not-is_end-clause-refused : goal.returns-then-not-is_end-clause-refused
returns-then-not-is_end-clause-refused c = inr (search (rules, undeclared, c.loop-line.invariant.lines))

pub returns-clause-read : goal.returns-clause-read
returns-clause-read c = search (rules, ended, c.loop-line.invariant.lines)
