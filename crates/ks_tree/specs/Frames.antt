-- What a call leaves of a tree, whichever tree it is.
use Rattle.std.specs.Prelude.{◌≡◌, ◌≤◌}
use Rattle.ks_tree.specs.declared.tree.Tree.{Ghosts}
use Rattle.ks_tree.specs.Files.{HasRisen}

-- A call fails by the device only where the tree counted it, and the count never falls.
pub record Counted {T : Type 0} (tree : Ghosts T) (old new : T) (device : Type 0) : Type 0 where
  pub later : tree.failures old ≤ tree.failures new
  pub cause : device → HasRisen (tree.failures old) (tree.failures new)

-- A call that only reads.
pub record Reads {T : Type 0} (tree : Ghosts T) (old new : T) (device : Type 0) : Type 0 where
  pub unchanged : tree.is_honest → tree.files new ≡ tree.files old
  pub kept : tree.backdated new ≡ tree.backdated old
  pub counted : Counted tree old new device
