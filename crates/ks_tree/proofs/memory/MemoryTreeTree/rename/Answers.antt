use Rattle.ks_tree.proofs.Prelude.{arith, Some, None, refl, rules, files_of}
use Rattle.ks_tree.proofs.Stored.{found, sets, here, elsewhere}
use Rattle.ks_tree.proofs.memory.MemoryTreeTree.rename.Goals as goal

pub returns-in_default-clause-moved : goal.returns-in_default-clause-moved
returns-in_default-clause-moved c = λ honest.
    let none = found _ c.args.self.now _ None c.self.view_is c.in_default.ensures.value in let there = c.requires.there honest in grind arith

pub returns-clause-moved : goal.returns-clause-moved
returns-clause-moved c =
    let at = found _ c.args.self.now _ (Some c.in-Some.bytes.now) c.self.view_is c.in-Some.ensures.value in
    let put = sets c.self.inside.files c.insert.new.self c.args.self.now c.self.view_is _ c.args.to.now _ (Some c.in-Some.bytes.now.items)
    c.in_ok-insert.ensures.updates (search rules) (search rules) in
    let taken = sets c.insert.new.self c.remove.new.self (files_of c.insert.new.self.entries) refl c.args.from.now _ None _
    c.remove.ensures.updates refl refl in
    search (rules, elsewhere, here)

pub returns-in_default-clause-called : goal.returns-in_default-clause-called
returns-in_default-clause-called c = (returns-in_default-clause-moved c tt, tt)

pub returns-clause-called : goal.returns-clause-called
returns-clause-called c = (returns-clause-moved c tt, tt)
