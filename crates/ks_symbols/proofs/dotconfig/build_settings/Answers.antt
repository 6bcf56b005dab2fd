use Rattle.ks_symbols.proofs.Prelude.{ap, length, zero-add, arith, err_from_is_err_and, lines, line_fault, first_fault, dotconfig_refusal, common_steps, rules, cond-true, nat_tests}
use Rattle.std.specs.FinMap as map
use Rattle.ks_symbols.proofs.Faults.{refused, not_large, unknown-cons}
use Rattle.ks_symbols.proofs.LastLine.{settled, settled-setting}
use Rattle.ks_symbols.proofs.Configured.{configured}
use Rattle.ks_symbols.proofs.dotconfig.build_settings.Goals as goal

pub returns-then-text-gt-MAX_BYTES-clause-refusal : goal.returns-then-text-gt-MAX_BYTES-clause-refusal
unfolding dotconfig_refusal
returns-then-text-gt-MAX_BYTES-clause-refusal c = search (rules, nat_tests, cond-true)

pub loop-line-init : goal.loop-line-init
unfolding lines
loop-line-init c = search (rules, map.get-empty, zero-add)

pub returns-in_err-apply-clause-refusal : goal.returns-in_err-apply-clause-refusal
unfolding line_fault first_fault
returns-in_err-apply-clause-refusal c = search (rules, err_from_is_err_and, refused, not_large)

pub loop-line-preserved : goal.loop-line-preserved
unfolding line_fault settled first_fault
loop-line-preserved c = record {
  same = search rules;
  entries = λ x. search (rules, (c.in_ok-apply.ensures.entries x), (c.loop-line.invariant.entries x));
  unknown = grind (arith, common_steps, unknown-cons);
  refusal = search rules;
  numbers = omega (arith, ap length c.in-Some.ensures.steps);
  small = grind (arith, common_steps);
}

pub returns-clause-entries : goal.returns-clause-entries
unfolding settled
returns-clause-entries c = search (rules, settled-setting)

pub returns-clause-refusal : goal.returns-clause-refusal
unfolding first_fault
returns-clause-refusal c = search (rules, not_large)

pub returns-clause-configured : goal.returns-clause-configured
returns-clause-configured c =
    configured (map.get c.args.symbols.now.kinds) (lines c.args.text.now) c.in_ok-finish.field-0.entries c.keeps_names.ensures (returns-clause-entries c)
