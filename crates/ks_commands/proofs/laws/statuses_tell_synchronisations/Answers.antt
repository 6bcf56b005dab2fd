use Rattle.ks_commands.proofs.TreeStatuses.{same_touch_nothing, synchronised_are_same, synchronised_are_whole}
use Rattle.ks_commands.proofs.laws.statuses_tell_synchronisations.Goals as goal

pub returns : goal.returns
returns c = record { whole = synchronised_are_whole; same = synchronised_are_same; nothing = same_touch_nothing }
