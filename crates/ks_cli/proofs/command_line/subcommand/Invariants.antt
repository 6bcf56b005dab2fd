use Rattle.ks_cli.proofs.Prelude.{◌≡◌, map, false, take, app_of, out-Command, taking, arg_rule}
use Rattle.ks_cli.proofs.command_line.subcommand.Given as goal

abbrev pub invariant-loop-arg : goal.invariant-loop-arg
invariant-loop-arg l = (app_of l.command ≡ taking l.usage.name.now (map arg_rule (take l.arg-index l.usage.args.now)))
    × ((out-Command l.command).has_globals ≡ false)
