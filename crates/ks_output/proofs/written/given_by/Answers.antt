use Rattle.ks_output.proofs.Prelude.{rules}
use Rattle.ks_output.proofs.WrittenConfigured.{assigned_name}
use Rattle.ks_output.proofs.written.given_by.Goals as goal

pub returns-in-Some-Assigns-clause-named : goal.returns-in-Some-Assigns-clause-named
returns-in-Some-Assigns-clause-named c = search (rules, assigned_name)
