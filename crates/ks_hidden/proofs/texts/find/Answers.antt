use Rattle.ks_hidden.proofs.TextLemmas.{first_found}
use Rattle.ks_hidden.proofs.texts.find.Goals as goal

pub returns : goal.returns
returns c = first_found c.args.text.now c.args.word.now c.find.result c.find.ensures
