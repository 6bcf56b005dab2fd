use Rattle.ks_output.proofs.Prelude.{refl}
use Rattle.ks_output.proofs.ScanSteps.{stands_first}
use Rattle.ks_output.proofs.auto_scan.AutoScan.new.Goals as goal

pub returns : goal.returns
returns c = stands_first _ refl refl refl refl refl
