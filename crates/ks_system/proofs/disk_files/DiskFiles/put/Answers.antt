use Rattle.std.proofs.Common.{refl, rules}
use Rattle.ks_tree.proofs.Stored.{sets, here, elsewhere}
use Rattle.ks_system.proofs.disk_files.DiskFiles.put.Goals as goal

pub returns-clause-written : goal.returns-clause-written
returns-clause-written c =
    search (rules, here, (sets c.self.inside.files c.insert.new.self c.args.self.now c.self.view_is _ _ _ _ c.in_ok-insert.ensures.updates refl refl))

pub returns-clause-others : goal.returns-clause-others
returns-clause-others c =
    search (rules, elsewhere, (sets c.self.inside.files c.insert.new.self c.args.self.now c.self.view_is _ _ _ _ c.in_ok-insert.ensures.updates refl refl))
