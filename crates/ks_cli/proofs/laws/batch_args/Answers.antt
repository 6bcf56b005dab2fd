use Rattle.ks_cli.proofs.Reported.{batch_args}
use Rattle.ks_cli.proofs.laws.batch_args.Goals as goal

pub returns : goal.returns
returns c = batch_args
