use Rattle.ks_fixdep.proofs.Prelude.{refl, is_name, is_path, header_path, name_of, name_of_word, names_after, tokens, prerequisites_without, refusal_without, token_refusal}
use Rattle.ks_fixdep.proofs.laws.recording_examples.Goals as goal

pub returns-clause-names : goal.returns-clause-names
unfolding names_after name_of_word name_of is_name
returns-clause-names c = refl

pub returns-clause-roles : goal.returns-clause-roles
unfolding prerequisites_without tokens header_path
returns-clause-roles c = refl

pub returns-clause-fault : goal.returns-clause-fault
unfolding refusal_without token_refusal tokens is_path header_path
returns-clause-fault c = refl

pub returns-clause-lines : goal.returns-clause-lines
returns-clause-lines c = refl
