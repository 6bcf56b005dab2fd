-- What a disk in memory has. A handle of it goes by its path, so no number is needed.
use Rattle.std.specs.Prelude.{ℕ, List}
use Rattle.ks_tree.specs.Files.{Files}
use Rattle.ks_system.specs.System.{World}

abbrev pub world_of : Files → List (List ℕ) → World
world_of files dated = record { files = files; names = 0; dated = dated }
