-- What a scanner keeps once the names that it borrowed are given back.
use Rattle.std.specs.Prelude.{ℕ, List, Option}
use Rattle.std.specs.Borrow.{MutBor, Fml}
use Rattle.std.specs.Io.BufRead.{Rests}
use Rattle.ks_fixdep.specs.declared.scanner.Scanner.{Scanner}
use Rattle.ks_fixdep.specs.contracts.scanner.Scanner.{the_row}

-- P holds of what it keeps
abbrev pub Keeps : MutBor Scanner → (Option (List ℕ) → Type 0) → Fml
Keeps s P = Rests the_row s P
