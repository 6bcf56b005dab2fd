-- What a call answers against what its definition gives.
use Rattle.std.specs.Prelude.{◌≡◌, ℕ, List, Option, Some, None, Result, Ok, Err, ⊤}
use Rattle.std.specs.Borrow.{Bor}
use Rattle.ks_fixdep.specs.declared.command_file.CommandError.{CommandError}
use Rattle.ks_fixdep.specs.declared.command_file.CommandError.TheVariants as errors

-- A refusal is that of the definition, or want of memory.
abbrev pub Fails : {Y : Type 0} → CommandError → Result Y ℕ → Type 0
Fails errors.OutOfMemory read = ⊤
Fails errors.TooLarge read = ⊥
Fails (errors.BadCommandFile n) read = read ≡ Err n

-- The answer, seen by view, is what the definition gives, and so is a refusal, want of memory aside.
abbrev pub Gives : {X Y : Type 0} → (X → Y) → Result X CommandError → Result Y ℕ → Type 0
Gives view (Ok x) read = read ≡ Ok (view x)
Gives view (Err e) read = Fails e read

-- the two parts of a line, without where they lie in memory
abbrev pub copied_pair : Option (Bor (List ℕ) × Bor (List ℕ)) → Option (List ℕ × List ℕ)
copied_pair None = None
copied_pair (Some p) = Some (p.0.now, p.1.now)
