use Rattle.ks_cli.proofs.Prelude.{◌≡◌, map, take, app_of, usage_app, with_all}
use Rattle.ks_cli.proofs.command_line.with_usages.Given as goal

abbrev pub invariant-loop-usage : goal.invariant-loop-usage
invariant-loop-usage l = app_of l.command ≡ with_all (app_of l.fn.command) (map usage_app (take l.usage-index l.usages))
