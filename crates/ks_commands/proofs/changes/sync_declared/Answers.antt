use Rattle.std.proofs.Common.{rules}
use Rattle.ks_commands.proofs.Continuing.{stamped_printed, sync_printed}
use Rattle.ks_commands.proofs.changes.sync_declared.Goals as goal

pub returns-in-Kconfig-clause-files : goal.returns-in-Kconfig-clause-files
returns-in-Kconfig-clause-files g c = search (rules, stamped_printed)

pub returns-in-Written-clause-files : goal.returns-in-Written-clause-files
returns-in-Written-clause-files g c = search (rules, sync_printed)
