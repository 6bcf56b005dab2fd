use Rattle.ks_commands.proofs.Histories.{requests_go_on}
use Rattle.ks_commands.proofs.laws.requests_go_on.Goals as goal

pub returns : goal.returns
returns c = requests_go_on
