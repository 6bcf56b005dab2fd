use Rattle.ks_engine.proofs.Prelude.{sym, subst, IsCacheOf}
use Rattle.ks_engine.proofs.Keeping.{cache_kept}
use Rattle.ks_engine.proofs.marking.write_mark.Goals as goal

pub returns-in_err-forget_record-clause-cache : goal.returns-in_err-forget_record-clause-cache
returns-in_err-forget_record-clause-cache g c = λ honest.
    c.forget_record.ensures.cache _ (subst (λ f. IsCacheOf f c.args.cache.now) (sym (c.read_marked.ensures.reads.unchanged honest)) (c.requires.cache honest))

pub returns-in_err-write_record-clause-cache : goal.returns-in_err-write_record-clause-cache
returns-in_err-write_record-clause-cache g c = λ honest.
    cache_kept _ _ _ _ (c.write_record.ensures.others honest) c.in_ok-forget_record.ensures.gone.1 c.in_ok-forget_record.ensures.gone.0
    (c.forget_record.ensures.cache _ (subst (λ f. IsCacheOf f c.args.cache.now) (sym (c.read_marked.ensures.reads.unchanged honest)) (c.requires.cache honest)))

pub returns-clause-cache : goal.returns-clause-cache
returns-clause-cache g c = λ honest.
    cache_kept _ _ _ _ (c.write_record.ensures.others honest) c.in_ok-forget_record.ensures.gone.1 c.in_ok-forget_record.ensures.gone.0
    (c.forget_record.ensures.cache _ (subst (λ f. IsCacheOf f c.args.cache.now) (sym (c.read_marked.ensures.reads.unchanged honest)) (c.requires.cache honest)))
