use Rattle.ks_engine.proofs.Prelude.{refl, err_from_is_err_and}
use Rattle.ks_engine.proofs.Drafting.{or_given}
use Rattle.ks_engine.proofs.Reading.{plan_of_old, plan_of_over}
use Rattle.ks_engine.proofs.planning.plan_config_inputs.Goals as goal

pub returns-in_err-old-clause-refused : goal.returns-in_err-old-clause-refused
returns-in_err-old-clause-refused g c = λ honest source read.
    let p = err_from_is_err_and c.from_residual.result c.from_residual.ensures.1 in
    rw (p.1, p.2) (or_given (plan_of_old _ source _ _ read) (c.in_err-old.ensures.read honest))

pub returns-in_err-report-clause-refused : goal.returns-in_err-report-clause-refused
returns-in_err-report-clause-refused g c = λ honest source read.
    let p = err_from_is_err_and c.from_residual-in_err-report.result c.from_residual-in_err-report.ensures.1 in
    rw (p.1, p.2) (or_given (plan_of_over _ source _ _ _ read (c.in_ok-old.ensures.read honest)) c.in_err-report.ensures.refused)

pub returns-clause-planned : goal.returns-clause-planned
returns-clause-planned g c = λ honest source read.
    let over = c.in_ok-report.ensures.planned in
    (_, plan_of_over _ source _ _ _ read (c.in_ok-old.ensures.read honest) over.0, record { title = refl; config = refl; old = refl; report = over.1 })
