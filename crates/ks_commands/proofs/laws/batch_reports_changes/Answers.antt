use Rattle.ks_commands.proofs.Headline.{batch_reports_changes}
use Rattle.ks_commands.proofs.laws.batch_reports_changes.Goals as goal

pub returns : goal.returns
returns c = batch_reports_changes
