use Rattle.ks_tree.proofs.Prelude.{ltb-true, reads_only_written, reads_back, append_cancel_right, rules}
use Rattle.ks_tree.proofs.stamps.number.Goals as goal

pub returns-in-Some-eq10-default-clause-found : goal.returns-in-Some-eq10-default-clause-found
returns-in-Some-eq10-default-clause-found c = search (rules, reads_only_written, ltb-true)

pub returns-in-Some-eq10-default-clause-none : goal.returns-in-Some-eq10-default-clause-none
returns-in-Some-eq10-default-clause-none c = search (rules, append_cancel_right, reads_back)
