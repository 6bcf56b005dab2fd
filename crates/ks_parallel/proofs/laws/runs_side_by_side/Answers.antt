use Rattle.ks_parallel.proofs.Runs.{runs_side_by_side}
use Rattle.ks_parallel.proofs.laws.runs_side_by_side.Goals as goal

pub returns : goal.returns
returns c = runs_side_by_side
