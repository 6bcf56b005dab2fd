use Rattle.ks_output.proofs.Texts.{texts_are_of_entries, texts_have_names}
use Rattle.ks_output.proofs.laws.texts_are_of_entries.Goals as goal

pub returns : goal.returns
returns c = record { texts = texts_are_of_entries; names = texts_have_names }
