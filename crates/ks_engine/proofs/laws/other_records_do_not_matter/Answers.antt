use Rattle.ks_engine.proofs.OtherRecords.{others_do_not_matter}
use Rattle.ks_engine.proofs.laws.other_records_do_not_matter.Goals as goal

pub returns : goal.returns
returns c = others_do_not_matter
