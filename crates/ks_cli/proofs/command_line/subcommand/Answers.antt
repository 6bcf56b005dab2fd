use Rattle.ks_cli.proofs.Prelude.{rules}
use Rattle.ks_cli.proofs.RuleLemmas.{fold_more}
use Rattle.ks_cli.proofs.command_line.subcommand.Goals as goal

pub loop-arg-preserved : goal.loop-arg-preserved
loop-arg-preserved c = search (rules, fold_more)
