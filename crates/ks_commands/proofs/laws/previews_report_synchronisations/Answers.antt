use Rattle.ks_commands.proofs.Previewing.{previews_report_syncs, previews_are_refused_as_syncs}
use Rattle.ks_commands.proofs.laws.previews_report_synchronisations.Goals as goal

pub returns-clause-reported : goal.returns-clause-reported
returns-clause-reported c = previews_report_syncs

pub returns-clause-refused : goal.returns-clause-refused
returns-clause-refused c = previews_are_refused_as_syncs
