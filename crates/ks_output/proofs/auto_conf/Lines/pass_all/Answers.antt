use Rattle.std.proofs.lemmas.Result.{err_from_is_err_and}
use Rattle.ks_output.proofs.Prelude.{sym, ap, seen_remark}
use Rattle.ks_output.proofs.LastRemark.{with_number, with_number-others}
use Rattle.ks_output.proofs.PositionSteps.{one_said, none_said, ran_out, run_refused, runs_from, runs_on, runs_over}
use Rattle.ks_output.proofs.auto_conf.Lines.pass_all.Goals as goal

pub remarks-init : goal.remarks-init
remarks-init c = runs_from c.args.self.now c.args.generation

pub remarks-preserved-in-Numbers : goal.remarks-preserved-in-Numbers
unfolding with_number
remarks-preserved-in-Numbers c =
    let over = runs_over _ _ _ _ _ c.remarks.invariant c.pass_switches.ensures.passed in
    runs_on _ _ _ _ _ _ _ over (one_said _ _ _ _ c.in_ok-remark.ensures.evaluated c.in-Some.is)
    (ap (λ d. with_number c.remarks.generation (seen_remark d)) (sym c.in-Numbers.is))

pub remarks-preserved : goal.remarks-preserved
remarks-preserved c =
    let over = runs_over _ _ _ _ _ c.remarks.invariant c.pass_switches.ensures.passed in
    runs_on _ _ _ _ _ _ _ over (one_said _ _ _ _ c.in_ok-remark.ensures.evaluated c.in-Some.is)
    (sym (with_number-others c.remarks.generation c.in-Some.remark c.in_default-remark.not-Numbers))

pub returns-in_default-clause-ran_out : goal.returns-in_default-clause-ran_out
returns-in_default-clause-ran_out c =
    let over = runs_over _ _ _ _ _ c.remarks.invariant c.pass_switches.ensures.passed in
    let step = none_said _ _ _ c.in_ok-remark.ensures.evaluated c.in_default.is in
    ran_out _ _ _ _ _ over step.0 step.1

pub returns-in_err-remark-clause-ran_out : goal.returns-in_err-remark-clause-ran_out
returns-in_err-remark-clause-ran_out c =
    let over = runs_over _ _ _ _ _ c.remarks.invariant c.pass_switches.ensures.passed in
    let p = err_from_is_err_and c.from_residual.result c.from_residual.ensures.1 in
    rw (p.1, p.2) (run_refused _ _ _ _ _ over c.in_err-remark.ensures.evaluated)
