-- The files of a tree, and what one call of it reads or changes.
use Rattle.std.specs.Prelude.{◌≡◌, ◌≢◌, ◌⊎◌, ℕ, ◌+◌, ◌≤◌, ◌<◌, min, List, Option, Some, None, length, take, drop, ◌++◌}
use Rattle.std.specs.FinMap.{get}
use Rattle.ks_symbols.specs.Configuration.{NameMap}
use Rattle.ks_symbols.specs.Lines.{max_bytes}

-- from the bytes of a path, whichever they are, to the bytes of its file
abbrev pub Files : Type 0
Files = NameMap (List ℕ)

-- the bytes of the file at a path, where there is one
abbrev pub content : Files → List ℕ → Option (List ℕ)
content files path = get files path

-- Every other path is as before.
abbrev pub SameBut : List ℕ → Files → Files → Type 0
SameBut path old new = (q : List ℕ) → q ≢ path → content new q ≡ content old q

-- Every path but these two is as before.
abbrev pub SameButBoth : List ℕ → List ℕ → Files → Files → Type 0
SameButBoth path other old new = (q : List ℕ) → q ≢ path → q ≢ other → content new q ≡ content old q

-- The one path has what the other had, which is gone.
pub record IsMoved (from to : List ℕ) (old new : Files) : Type 0 where
  pub arrived : content new to ≡ content old from
  pub gone : content new from ≡ None
  pub others : SameButBoth from to old new

-- the file that was there, or else these bytes
abbrev pub kept_or : Option (List ℕ) → List ℕ → List ℕ
kept_or None bytes = bytes
kept_or (Some b) bytes = b

-- What a creation that failed leaves: what was there, or a beginning of the bytes where nothing was.
abbrev pub IsHalfCreated : Option (List ℕ) → List ℕ → Option (List ℕ) → Type 0
IsHalfCreated old bytes new = (new ≡ old) ⊎ ((old ≡ None) × ((n : ℕ) × (new ≡ Some (take n bytes))))

-- The file is larger than what is read.
abbrev pub IsTooLarge : Option (List ℕ) → Type 0
IsTooLarge file = (b : List ℕ) × (file ≡ Some b) × (max_bytes < length b)

-- the bytes from an offset on, as many as there is room for
abbrev pub piece : List ℕ → ℕ → ℕ → List ℕ
piece b offset size = take size (drop offset b)

-- The room holds the piece of b, and after it what it held before.
pub record IsPieceRead (b : List ℕ) (offset : ℕ) (old new : List ℕ) (count : ℕ) : Type 0 where
  pub is : count ≡ length (piece b offset (length old))
  pub bytes : new ≡ piece b offset (length old) ++ drop count old

-- What a read from an offset on gives: None where there is no file, else how many bytes of it the room holds.
abbrev pub IsReadAt : Option (List ℕ) → ℕ → List ℕ → List ℕ → Option ℕ → Type 0
IsReadAt file offset old new None = file ≡ None
IsReadAt file offset old new (Some n) = (b : List ℕ) × (file ≡ Some b) × IsPieceRead b offset old new n

-- A count of failures rose, or stands at its end, where it stays.
abbrev pub HasRisen : ℕ → ℕ → Type 0
HasRisen before now = min (before + 1) 18446744073709551615 ≤ now
