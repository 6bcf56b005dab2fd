use Rattle.ks_compare.proofs.Prelude.{rules}
use Rattle.ks_compare.proofs.BaseLemmas.{base_legal, base_noted, no_base_noted}
use Rattle.ks_compare.proofs.bases.note_base.Goals as goal

pub returns-in_ok-put-clause-legal : goal.returns-in_ok-put-clause-legal
returns-in_ok-put-clause-legal c = search (rules, base_legal)

pub returns-in_ok-put-clause-noted : goal.returns-in_ok-put-clause-noted
returns-in_ok-put-clause-noted c = search (rules, base_noted)

pub returns-in_default-clause-noted : goal.returns-in_default-clause-noted
returns-in_default-clause-noted c = no_base_noted c.args.draft.now c.args.name.now (search rules)
