use Rattle.ks_fixdep.proofs.Prelude.{rules}
use Rattle.ks_fixdep.proofs.OwnLineLemmas.{further_lines_read}
use Rattle.ks_fixdep.proofs.command_file.own_lines.further_lines_are_read.Goals as goal

pub returns : goal.returns
returns c = search (rules, further_lines_read)
