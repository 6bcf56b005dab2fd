use Rattle.ks_output.proofs.Prelude.{rules, append_assoc}
use Rattle.ks_output.proofs.header.append_definition.Goals as goal

pub returns-clause-written : goal.returns-clause-written
returns-clause-written c = search (rules, append_assoc)
