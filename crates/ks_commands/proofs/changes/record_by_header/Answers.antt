use Rattle.ks_commands.proofs.Prelude.{err_from_is_err_and, rules}
use Rattle.ks_commands.proofs.changes.record_by_header.Goals as goal

pub returns-in_err-report_depfile-clause-files : goal.returns-in_err-report_depfile-clause-files
returns-in_err-report_depfile-clause-files g c = search (rules, err_from_is_err_and)
