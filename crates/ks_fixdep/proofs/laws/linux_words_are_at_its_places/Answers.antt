use Rattle.ks_fixdep.proofs.WordLemmas.{linux-places}
use Rattle.ks_fixdep.proofs.laws.linux_words_are_at_its_places.Goals as goal

pub returns : goal.returns
returns c = linux-places
