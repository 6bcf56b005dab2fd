use Rattle.ks_engine.proofs.recording.forget_record.Goals as goal

pub returns-clause-cache : goal.returns-clause-cache
returns-clause-cache c = λ files is. c.invalidate-2.ensures.cache _ (c.invalidate.ensures.cache _ is)
