use Rattle.ks_commands.proofs.Ending.{previews_are_performed}
use Rattle.ks_commands.proofs.laws.previews_are_performed.Goals as goal

pub returns : goal.returns
returns c = previews_are_performed
