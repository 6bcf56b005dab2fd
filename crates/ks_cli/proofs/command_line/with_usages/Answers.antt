use Rattle.ks_cli.proofs.Prelude.{◌∙◌, refl, sym, app_of, with_subcommand, usage_app}
use Rattle.ks_cli.proofs.RuleLemmas.{added, fold_more}
use Rattle.ks_cli.proofs.command_line.with_usages.Goals as goal

pub loop-usage-init : goal.loop-usage-init
loop-usage-init c = refl

pub loop-usage-preserved : goal.loop-usage-preserved
loop-usage-preserved c =
    added _ _ _ _ _ c.in_ok-command.ensures c.in_ok-subcommand.ensures.local c.loop-usage.invariant c.in_ok-subcommand.ensures.app
    ∙ sym (fold_more (λ a sub. with_subcommand a sub.top) usage_app (app_of c.args.command) _ c.loop-usage.usage-index _ c.loop-usage-test.true)
