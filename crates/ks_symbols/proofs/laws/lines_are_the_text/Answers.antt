use Rattle.ks_symbols.proofs.Prelude.{concat-lines_of}
use Rattle.ks_symbols.proofs.LineFeeds.{no_line_feeds}
use Rattle.ks_symbols.proofs.laws.lines_are_the_text.Goals as goal

pub returns : goal.returns
returns c = record { joined = concat-lines_of; cut = no_line_feeds }
