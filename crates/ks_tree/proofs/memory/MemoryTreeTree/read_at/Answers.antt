use Rattle.ks_tree.proofs.Stored.{found}
use Rattle.ks_tree.proofs.memory.MemoryTreeTree.read_at.Goals as goal

pub returns-in_default-clause-found : goal.returns-in_default-clause-found
returns-in_default-clause-found c = λ honest. found _ _ _ _ c.self.view_is c.in_default.ensures.value

pub returns-clause-found : goal.returns-clause-found
returns-clause-found c = λ honest.
    (c.in-Some.bytes.now.items, found _ _ _ _ c.self.view_is c.in-Some.ensures.value, rw c.deref.ensures.value at c.copy_from.ensures.read)
