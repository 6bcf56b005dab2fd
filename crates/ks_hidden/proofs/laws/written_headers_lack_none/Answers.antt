use Rattle.ks_hidden.proofs.WholeHeaders.{conf_lacks_none, written_lacks_none}
use Rattle.ks_hidden.proofs.laws.written_headers_lack_none.Goals as goal

pub returns : goal.returns
returns c = record { written = written_lacks_none; conf = conf_lacks_none }
