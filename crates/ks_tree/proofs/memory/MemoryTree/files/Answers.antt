use Rattle.ks_tree.proofs.Prelude.{rules}
use Rattle.ks_tree.proofs.Tables.{entries-named}
use Rattle.ks_tree.proofs.memory.MemoryTree.files.Goals as goal

pub returns : goal.returns
returns c = search (rules, entries-named)
