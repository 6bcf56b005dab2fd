-- The files that a script names, as they are kept while it runs.
use Rattle.std.specs.Prelude.{◌≡◌, ℕ, List, Some, Ok, IsSome, ⊤}
use Rattle.ks_tree.specs.Files.{Files, content}
use Rattle.ks_requests.specs.Script.{Line, Sync}
use Rattle.ks_requests.specs.Inputs.{given}

-- Each file kept is the one that its path names.
abbrev pub AreGiven : Files → Files → Type 0
AreGiven files kept = (path bytes : List ℕ) → content kept path ≡ Some bytes → given files path ≡ Ok bytes

abbrev pub IsKept : Files → List ℕ → Type 0
IsKept kept path = IsSome (content kept path)

-- The files that a line names are kept.
abbrev pub AreKept : Files → Line → Type 0
AreKept kept (Sync kconfig dotconfig) = IsKept kept kconfig × IsKept kept dotconfig
AreKept kept line = ⊤
