use Rattle.std.proofs.Common.{rules}
use Rattle.ks_commands.proofs.Continuing.{sync_printed}
use Rattle.ks_commands.proofs.changes.sync_with.Goals as goal

pub returns-in-Touched-clause-files : goal.returns-in-Touched-clause-files
returns-in-Touched-clause-files g c = search (rules, sync_printed)

pub returns-in-Declared-clause-files : goal.returns-in-Declared-clause-files
returns-in-Declared-clause-files g c = search rules
