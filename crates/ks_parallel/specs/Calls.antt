-- The calls of a tree by what they did, and what one process sees of the files.
use Rattle.std.specs.Prelude.{◌≡◌, ℕ, List, [], ◌∷◌, Bool, false, ◌||◌, Option, Some, None, bytes_eq, ⊤}
use Rattle.std.specs.FinMap.{insert, remove, retain_keys}
use Rattle.ks_tree.specs.Files.{Files, content}

-- One call. One that failed did nothing, or left its path in any state if it was a write, or has moved the file all the same.
pub data Call : Type 0 where
  -- a file, or a part of it, was read, and this is what stood there
  Reads : (path : List ℕ) (file : Option (List ℕ)) → Call
  -- a file was written, and this is what stands there now
  Leaves : (path : List ℕ) (file : Option (List ℕ)) → Call
  Moves : (from to : List ℕ) → Call
  Nothing : Call

abbrev pub put : Files → List ℕ → Option (List ℕ) → Files
put files path None = remove files path
put files path (Some b) = insert files path b

-- the files after a call, and after several
unfoldable pub after : Files → Call → Files
after files (Reads path file) = files
after files (Leaves path file) = put files path file
after files (Moves from to) = put (put files from None) to (content files from)
after files Nothing = files

abbrev pub after_all : Files → List Call → Files
after_all files [] = files
after_all files (c ∷ cs) = after_all (after files c) cs

-- What it read stands there, and so for each of several in turn.
abbrev pub Finds : Files → Call → Type 0
Finds files (Reads path file) = content files path ≡ file
Finds files c = ⊤

abbrev pub AllFind : Files → List Call → Type 0
AllFind files [] = ⊤
AllFind files (c ∷ cs) = Finds files c × AllFind (after files c) cs

-- the paths that a call writes, and those that it reads or writes
abbrev pub writes : Call → List ℕ → Bool
writes (Leaves path file) q = bytes_eq path q
writes (Moves from to) q = bytes_eq from q || bytes_eq to q
writes c q = false

abbrev pub uses : Call → List ℕ → Bool
uses (Reads path file) q = bytes_eq path q
uses c q = writes c q

-- of the files those at the paths that are seen
abbrev pub view : (List ℕ → Bool) → Files → Files
view sees files = retain_keys files sees
