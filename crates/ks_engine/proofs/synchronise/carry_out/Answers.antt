use Rattle.ks_engine.proofs.Prelude.{inr, ap, Err, err_from_is_err_and}
use Rattle.ks_engine.proofs.Reading.{given_fault}
use Rattle.ks_engine.proofs.synchronise.carry_out.Goals as goal

pub returns-in_err-write_all-clause-refused : goal.returns-in_err-write_all-clause-refused
returns-in_err-write_all-clause-refused g c = λ honest source planned.
    let p = err_from_is_err_and c.from_residual-in_err-write_all.result c.from_residual-in_err-write_all.ensures.1 in
    let work = c.in_ok-work.ensures planned.0 planned.2 in
    let some = c.in_err-write_all.ensures.some honest planned.0 work in
    rw (p.1, p.2) (inr (
      given_fault _ (λ e. c.in_err-write_all.ensures.never (ap (λ f. Err f) e)),
      inr (record { plan = planned.0; planned = planned.1; names = _; changed = work.report.changed; some = some }),
    ))

pub returns-clause-synced : goal.returns-clause-synced
returns-clause-synced g c = λ honest source planned.
    let work = c.in_ok-work.ensures planned.0 planned.2 in
    record {
      plan = planned.0;
      planned = planned.1;
      generation = work.report.generation;
      unknown = work.report.unknown;
      changed = work.report.changed;
      done = c.in_ok-write_all.ensures.all honest planned.0 work;
    }
