-- What was read at a path ahead of the command that needs it.
use Rattle.std.specs.Prelude.{ℕ, List, Option}

-- the path, and the bytes that were found there, if there was a file
pub record Held : Type 0 where
  pub path : List ℕ
  pub found : Option (List ℕ)
