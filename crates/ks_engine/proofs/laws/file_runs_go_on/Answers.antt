use Rattle.ks_engine.proofs.FileRunning.{goes_on}
use Rattle.ks_engine.proofs.laws.file_runs_go_on.Goals as goal

pub returns : goal.returns
returns c = λ dialect first calls last h shows run. goes_on dialect _ first calls last h tt shows run
