use Rattle.ks_engine.proofs.Prelude.{err_from_is_err_and, config_source, rules}
use Rattle.ks_engine.proofs.Following.{sync_follows, unwritten}
use Rattle.ks_engine.proofs.synchronise.sync.Goals as goal

pub returns-in_err-planned-clause-refused : goal.returns-in_err-planned-clause-refused
returns-in_err-planned-clause-refused g c = λ honest.
    let p = err_from_is_err_and c.from_residual.result c.from_residual.ensures.1 in
    rw (p.1, p.2) (unwritten _ _ (config_source c.args.texts.now) _ (c.plan_texts.ensures.reads.unchanged honest) (c.in_err-planned.ensures.refused honest))

pub returns-in_err-planned-clause-follows : goal.returns-in_err-planned-clause-follows
returns-in_err-planned-clause-follows g c = λ honest h shows.
    sync_follows _ _ _ _ h (config_source c.args.texts.now) _ shows (search (rules, err_from_is_err_and)) (returns-in_err-planned-clause-refused g c honest)

pub returns-clause-synced : goal.returns-clause-synced
returns-clause-synced g c = λ honest.
    (rw (c.plan_texts.ensures.reads.unchanged honest) at (c.carry_out.ensures.synced honest (config_source c.args.texts.now))) (c.in_ok-planned.ensures.planned honest)

pub returns-clause-refused : goal.returns-clause-refused
returns-clause-refused g c = λ honest.
    (rw (c.plan_texts.ensures.reads.unchanged honest) at (c.carry_out.ensures.refused honest (config_source c.args.texts.now))) (c.in_ok-planned.ensures.planned honest)

pub returns-clause-follows : goal.returns-clause-follows
returns-clause-follows g c = λ honest h shows.
    sync_follows _ _ _ _ h (config_source c.args.texts.now) _ shows (returns-clause-synced g c honest) (returns-clause-refused g c honest)
