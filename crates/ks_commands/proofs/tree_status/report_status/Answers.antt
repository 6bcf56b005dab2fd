use Rattle.ks_commands.proofs.Prelude.{inl, inr, Err, ap, ◌∙◌, option_map, err_from_is_err_and}
use Rattle.ks_engine.specs.Views.{sources_of}
use Rattle.ks_commands.proofs.tree_status.report_status.Goals as goal

pub returns-in_err-status-clause-reported : goal.returns-in_err-status-clause-reported
returns-in_err-status-clause-reported g c = λ honest.
    let p = err_from_is_err_and c.from_residual-in_err-status.result c.from_residual-in_err-status.ensures.1 in
    let read = c.in_ok-inputs.ensures.read honest in
    inr (
      read.0,
      read.1,
      option_map sources_of c.in_ok-inputs.inputs,
      read.2,
      inl (
        c.in_err-status.field-0.0,
        rw (← c.in_ok-inputs.ensures.reads.unchanged honest) (c.in_err-status.ensures.refused honest),
        p.1 ∙ ap (λ r. Err r) p.2,
      ),
    )
