use Rattle.std.proofs.Common.{Some, None, rules}
use Rattle.ks_tree.proofs.Stored.{found}
use Rattle.ks_system.proofs.disk_files.DiskFiles.get.Goals as goal

pub returns-in-Some : goal.returns-in-Some
returns-in-Some c = search (rules, (found _ c.args.self.now _ (Some c.in-Some.bytes.now) c.self.view_is c.in-Some.ensures.value))

pub returns-in-None : goal.returns-in-None
returns-in-None c = search (rules, (found _ c.args.self.now _ None c.self.view_is c.in-None.ensures.value))
