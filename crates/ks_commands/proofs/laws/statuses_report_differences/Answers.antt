use Rattle.ks_commands.proofs.Differing.{statuses_report_differences}
use Rattle.ks_commands.proofs.laws.statuses_report_differences.Goals as goal

pub returns : goal.returns
returns c = statuses_report_differences
