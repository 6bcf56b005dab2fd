use Rattle.ks_commands.proofs.Prelude.{err_from_is_err_and, rules}
use Rattle.ks_commands.proofs.batch.run_commands.Goals as goal

pub returns-in_err-report_replies-clause-ran : goal.returns-in_err-report_replies-clause-ran
returns-in_err-report_replies-clause-ran g c = search (rules, err_from_is_err_and)
