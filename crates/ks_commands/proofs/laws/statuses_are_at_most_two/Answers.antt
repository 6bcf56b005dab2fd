use Rattle.ks_commands.proofs.Ending.{statuses_are_at_most_two}
use Rattle.ks_commands.proofs.laws.statuses_are_at_most_two.Goals as goal

pub returns : goal.returns
returns c = statuses_are_at_most_two
