use Rattle.ks_commands.proofs.Ending.{refusals_change_nothing}
use Rattle.ks_commands.proofs.laws.refusals_change_nothing.Goals as goal

pub returns : goal.returns
returns c = refusals_change_nothing
