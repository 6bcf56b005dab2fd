-- What a call of an honest system reads or changes.
use Rattle.std.specs.Prelude.{◌≡◌, ◌≢◌, ◌⊎◌, ◌≤◌, ◌<◌, ℕ, List, [], ◌∷◌, ◌++◌, Bool, Option, Some, None, Result, Ok, Err, length, take, drop}
use Rattle.std.specs.declared.io.Error.{Error}
use Rattle.ks_tree.specs.Files.{Files, HasRisen, content, SameBut}
use Rattle.ks_system.specs.Errors.{Says}
use Rattle.ks_system.specs.declared.errors.Meaning.{Meaning}
use Rattle.ks_system.specs.declared.system.Kind.{Kind}
use Rattle.ks_system.specs.declared.system.Kind.TheVariants as kind
use Rattle.ks_system.specs.declared.system.Look.{Look}

-- What a system has: its files by their paths; how often a path came to name another file; and the paths whose files were given a
-- time long past when they were made, in turn.
pub record World : Type 0 where
  pub files : Files
  pub names : ℕ
  pub dated : List (List ℕ)

-- An open file: the path that it was opened at, how often paths had come to name other files by then, and whether it was made by that.
-- By a later number it may be the file of no path.
pub record Opened : Type 0 where
  pub path : List ℕ
  pub names : ℕ
  pub made : Bool

-- A call that went well leaves the count of failed calls, and one that failed raises it.
abbrev pub Counts : {V : Type 0} → Result V Error → ℕ → ℕ → Type 0
Counts (Ok v) before now = now ≡ before
Counts (Err e) before now = HasRisen before now

-- The same, but that an error of this meaning is an answer, which leaves the count.
abbrev pub CountsBut : {V : Type 0} → Meaning → Result V Error → ℕ → ℕ → Type 0
CountsBut meaning result before now = (Says meaning result → now ≡ before) × ((Says meaning result → ⊥) → Counts result before now)

-- The error of the last call is that of this result, and there is none where it went well.
abbrev pub IsErrorOf : {V : Type 0} → Result V Error → Option Error → Type 0
IsErrorOf (Ok v) last = last ≡ None
IsErrorOf (Err e) last = last ≡ Some e

-- A call failed, or signals interrupted calls up to the end of their count.
abbrev pub HasFailed : ℕ → ℕ → ℕ → Type 0
HasFailed before now signals = HasRisen before now ⊎ (18446744073709551615 ≤ signals)

-- Something stands there that is no regular file.
abbrev pub IsNoFile : Option Kind → Type 0
IsNoFile found = (k : Kind) × (found ≡ Some k) × (k ≢ kind.File)

-- A file's length, where a file stands there.
abbrev pub IsLookAt : Option (List ℕ) → Look → Type 0
IsLookAt file look = look.kind ≡ kind.File → (b : List ℕ) × (file ≡ Some b) × (length b ≡ look.size)

-- The room holds some of the bytes from an offset on, and after them what it held before. None are read only at the end.
pub record IsSomeRead (b : List ℕ) (offset : ℕ) (old new : List ℕ) (count : ℕ) : Type 0 where
  pub bytes : new ≡ take count (drop offset b) ++ drop count old
  pub within : count ≤ length (drop offset b)
  pub end : count ≡ 0 → 0 < length old → length b ≤ offset

abbrev pub IsSomeReadAt : Option (List ℕ) → ℕ → List ℕ → List ℕ → ℕ → Type 0
IsSomeReadAt file offset old new n = (b : List ℕ) × (file ≡ Some b) × IsSomeRead b offset old new n

-- An empty file was made where there was none.
pub record IsMade (path : List ℕ) (old new : Files) : Type 0 where
  pub free : content old path ≡ None
  pub empty : content new path ≡ Some []
  pub others : SameBut path old new

-- The file has these bytes more.
pub record IsAppended (path bytes : List ℕ) (old new : Files) : Type 0 where
  pub more : (b : List ℕ) → content old path ≡ Some b → content new path ≡ Some (b ++ bytes)
  pub others : SameBut path old new

-- a beginning of the bytes, of this length
abbrev pub Begun : Files → List ℕ → List ℕ → ℕ → Type 0
Begun files path bytes n = content files path ≡ Some (take n bytes)

-- The same files, and a date more.
abbrev pub dated_also : World → List ℕ → World
dated_also world path = record { files = world.files; names = world.names; dated = world.dated ++ path ∷ [] }
