use Rattle.ks_output.proofs.LastLine.{last_line_counts, untyped_has_no_class}
use Rattle.ks_output.proofs.SmallNumbers.{generation_fits}
use Rattle.ks_output.proofs.laws.last_lines_count.Goals as goal

pub returns : goal.returns
returns c = record { texts = last_line_counts; untyped = untyped_has_no_class; generation = generation_fits }
