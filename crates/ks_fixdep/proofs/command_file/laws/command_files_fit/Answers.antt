use Rattle.ks_fixdep.proofs.Prelude.{rules}
use Rattle.ks_fixdep.proofs.CommandFitLemmas.{lines-fit, lines-read}
use Rattle.ks_fixdep.proofs.CommandFaultLemmas.{first-misfit}
use Rattle.ks_fixdep.proofs.command_file.laws.command_files_fit.Goals as goal

pub returns : goal.returns
returns c = search (rules, lines-fit, lines-read, first-misfit)
