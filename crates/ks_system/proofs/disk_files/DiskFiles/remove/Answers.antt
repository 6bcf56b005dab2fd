use Rattle.std.proofs.Common.{None, refl, rules}
use Rattle.ks_tree.proofs.Stored.{sets, here, elsewhere}
use Rattle.ks_system.proofs.disk_files.DiskFiles.remove.Goals as goal

pub returns-clause-gone : goal.returns-clause-gone
returns-clause-gone c =
    search (rules, here, (sets c.self.inside.files c.remove.new.self c.args.self.now c.self.view_is c.args.path.now c.args.path.now None _ c.remove.ensures.updates refl refl))

pub returns-clause-others : goal.returns-clause-others
returns-clause-others c =
    search (rules, elsewhere, (sets c.self.inside.files c.remove.new.self c.args.self.now c.self.view_is c.args.path.now c.args.path.now None _ c.remove.ensures.updates refl refl))
