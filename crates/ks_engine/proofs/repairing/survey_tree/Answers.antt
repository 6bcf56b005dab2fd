use Rattle.ks_engine.proofs.repairing.survey_tree.Goals as goal

pub returns-clause-found : goal.returns-clause-found
returns-clause-found g c = λ honest. record {
  is_kept = c.in_ok-generation.ensures.read;
  are_records = c.in_ok-records.ensures.highest honest;
  are_stamps = rw (c.highest_record.ensures.reads.unchanged honest) at (c.in_ok-lost.ensures.stamps honest);
}
