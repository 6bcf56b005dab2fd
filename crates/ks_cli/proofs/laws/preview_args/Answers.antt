use Rattle.ks_cli.proofs.Reported.{preview_args}
use Rattle.ks_cli.proofs.laws.preview_args.Goals as goal

pub returns : goal.returns
returns c = preview_args
