use Rattle.ks_output.proofs.Prelude.{rules}
use Rattle.ks_output.proofs.PositionSteps.{end_refused, end_accepted}
use Rattle.ks_output.proofs.auto_conf.Lines.check_end.Goals as goal

pub returns-then-wants_entry-clause-refused : goal.returns-then-wants_entry-clause-refused
returns-then-wants_entry-clause-refused c = search (rules, end_refused)

pub returns-clause-accepted : goal.returns-clause-accepted
returns-clause-accepted c = search (rules, end_accepted)
