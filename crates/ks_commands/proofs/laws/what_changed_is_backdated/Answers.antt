use Rattle.ks_commands.proofs.BackdatingLemmas.{what_changed_is_backdated}
use Rattle.ks_commands.proofs.laws.what_changed_is_backdated.Goals as goal

pub returns : goal.returns
returns c = what_changed_is_backdated
