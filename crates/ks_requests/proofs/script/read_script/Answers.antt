use Rattle.ks_requests.proofs.Prelude.{inr, append-nil, err_from_is_err_and, lines, script_lines, rules}
use Rattle.ks_requests.proofs.ScriptFaults.{no_fault, fault_here, refused, too_large, not_large, option_append}
use Rattle.ks_requests.proofs.script.read_script.Goals as goal

pub returns-then-text-gt-MAX_BYTES-clause-refusal : goal.returns-then-text-gt-MAX_BYTES-clause-refusal
returns-then-text-gt-MAX_BYTES-clause-refusal c = inr (too_large c.args.text.now c.if-text-gt-MAX_BYTES.true)

pub loop-line-init : goal.loop-line-init
unfolding lines
loop-line-init c = search rules

pub returns-in_err-take_line-clause-refusal : goal.returns-in_err-take_line-clause-refusal
returns-in_err-take_line-clause-refusal c = search (rules, err_from_is_err_and, refused, not_large, fault_here)

pub loop-line-preserved : goal.loop-line-preserved
loop-line-preserved c = search (rules, option_append, no_fault)

pub returns-clause-lines : goal.returns-clause-lines
unfolding script_lines
returns-clause-lines c = search (rules, append-nil)

pub returns-clause-refusal : goal.returns-clause-refusal
returns-clause-refusal c = search (rules, not_large)
