use Rattle.ks_parallel.proofs.Frames.{depfiles_write_their_paths, records_go_by_what_they_read, records_write_two_paths}
use Rattle.ks_parallel.proofs.laws.records_have_their_paths.Goals as goal

pub returns : goal.returns
returns c = record { reads = records_go_by_what_they_read; writes = records_write_two_paths; depfiles = depfiles_write_their_paths }
