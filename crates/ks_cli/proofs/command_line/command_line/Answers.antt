use Rattle.ks_cli.proofs.RuleLemmas.{both_tables}
use Rattle.ks_cli.specs.CommandLine.{asking_apps, writing_apps}
use Rattle.ks_cli.proofs.command_line.command_line.Goals as goal

pub returns : goal.returns
returns c = both_tables _ _ _ writing_apps asking_apps c.in_ok-bare.ensures c.in_ok-writing.ensures c.in_ok-all.ensures
