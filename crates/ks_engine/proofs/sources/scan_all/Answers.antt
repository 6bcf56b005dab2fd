use Rattle.ks_engine.proofs.sources.scan_all.Goals as goal

pub scan_all_by-requires : goal.scan_all_by-requires
scan_all_by-requires g c = record { cache = λ honest. c.scan_by.ensures.cache _ (c.of_one_object-cache.ensures _) }
