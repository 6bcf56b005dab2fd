use Rattle.ks_fixdep.proofs.Prelude.{rules}
use Rattle.ks_fixdep.proofs.CommandFitLemmas.{lines-read}
use Rattle.ks_fixdep.proofs.CommandTextLemmas.{written-reads}
use Rattle.ks_fixdep.proofs.command_file.laws.command_texts_read_back.Goals as goal

pub returns : goal.returns
returns c = search (rules, written-reads, lines-read)
