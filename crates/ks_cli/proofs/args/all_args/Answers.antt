use Rattle.ks_cli.proofs.Prelude.{take_all, raw_values-rows, rules}
use Rattle.ks_cli.proofs.args.all_args.Goals as goal

pub returns : goal.returns
returns c = search (rules, take_all, raw_values-rows)

pub returns-in_default : goal.returns-in_default
returns-in_default c = search (rules, raw_values-rows)
