use Rattle.ks_engine.proofs.Prelude.{inr, err_from_is_err_and, rules}
use Rattle.ks_engine.proofs.DepfileLemmas.{recorded_from, tried_from}
use Rattle.ks_engine.proofs.Keeping.{cache_kept}
use Rattle.ks_engine.proofs.recording.record_by.Goals as goal

pub returns-in_err-write_record-clause-refused : goal.returns-in_err-write_record-clause-refused
returns-in_err-write_record-clause-refused g c = λ honest.
    let p = err_from_is_err_and c.from_residual-in_err-write_record.result c.from_residual-in_err-write_record.ensures.1 in
    let planned = c.in_ok-prepared.ensures.planned honest in
    let tried = tried_from planned.1 planned.2.draft (c.prepare.ensures.reads.unchanged honest) c.deref.ensures.value (c.write_record.ensures.others honest)
    (c.in_err-write_record.ensures.either honest) in
    rw (p.1, p.2) (inr (c.in_err-write_record.ensures.given, inr tried))

pub returns-clause-recorded : goal.returns-clause-recorded
returns-clause-recorded g c = search (rules, recorded_from)

pub returns-in_err-forget_record-clause-cache : goal.returns-in_err-forget_record-clause-cache
returns-in_err-forget_record-clause-cache g c = λ honest. c.forget_record.ensures.cache _ (c.prepare.ensures.cache honest)

pub returns-in_err-write_record-clause-cache : goal.returns-in_err-write_record-clause-cache
returns-in_err-write_record-clause-cache g c = λ honest.
    cache_kept _ _ _ _ (c.write_record.ensures.others honest) c.in_ok-forget_record.ensures.gone.1 c.in_ok-forget_record.ensures.gone.0
    (c.forget_record.ensures.cache _ (c.prepare.ensures.cache honest))

pub returns-clause-cache : goal.returns-clause-cache
returns-clause-cache g c = λ honest.
    cache_kept _ _ _ _ (c.write_record.ensures.others honest) c.in_ok-forget_record.ensures.gone.1 c.in_ok-forget_record.ensures.gone.0
    (c.forget_record.ensures.cache _ (c.prepare.ensures.cache honest))
