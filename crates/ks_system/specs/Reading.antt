-- What was read of a file, in turn, and before it was asked for.
use Rattle.std.specs.Prelude.{◌≡◌, ◌≤◌, ℕ, List, [], Bool, true, false, Option, Some, Result, Ok, Err, is_some, length, take, drop, ⊤}
use Rattle.ks_system.specs.declared.fs_error.ReadError.{ReadError}
use Rattle.ks_system.specs.declared.fs_error.ReadError.TheVariants.{System}
use Rattle.ks_system.specs.declared.system.Kind.{Kind}
use Rattle.ks_system.specs.declared.system.Kind.TheVariants as kind

-- What was read so far is a beginning of the file.
pub record IsReadTo (file : Option (List ℕ)) (read : List ℕ) : Type 0 where
  pub is : (b : List ℕ) → file ≡ Some b → read ≡ take (length read) b
  pub within : (b : List ℕ) → file ≡ Some b → length read ≤ length b

-- which file, from which offset on, which bytes
pub record Ahead : Type 0 where
  pub path : List ℕ
  pub offset : ℕ
  pub bytes : List ℕ

-- nothing of that file
abbrev pub nothing_of : List ℕ → ℕ → Ahead
nothing_of path offset = record { path = path; offset = offset; bytes = [] }

-- What was read ahead are bytes of a file that is there, from its offset on.
abbrev pub IsAheadOf : Option (List ℕ) → Ahead → Type 0
IsAheadOf file ahead = (is_some file ≡ true) × ((b : List ℕ) → file ≡ Some b → ahead.bytes ≡ take (length ahead.bytes) (drop ahead.offset b))

-- It is read to its end without waiting for anybody.
abbrev pub has_an_end : Kind → Bool
has_an_end kind.File = true
has_an_end kind.Disk = true
has_an_end kind.Null = true
has_an_end _ = false

abbrev pub HasNoEnd : Kind → Type 0
HasNoEnd found = has_an_end found ≡ false

-- Nothing was read since the system failed, and not for the length or for want of memory.
abbrev pub IsOfSystem : {V : Type 0} → Result V ReadError → Type 0
IsOfSystem (Ok v) = ⊥
IsOfSystem (Err (System e)) = ⊤
IsOfSystem (Err _) = ⊥
