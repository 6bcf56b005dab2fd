use Rattle.ks_fixdep.proofs.StreamLemmas.{pieces-whole}
use Rattle.ks_fixdep.proofs.laws.pieces_give_the_whole.Goals as goal

pub returns : goal.returns
returns c = pieces-whole
