-- Which calls of a tree pass, and what becomes of the others.
use Rattle.std.specs.Prelude.{◌≡◌, ◌/◌, List, take, length, ℕ, ◌+◌, ◌-◌, min, Bool, true, false, ◌&&◌, ◌||◌, ◌==◌, not, nat_lt, Option, Some, None, Result, OnOk, IsErrOf, if◌then◌else◌}
use Rattle.ks_tree.specs.declared.tree.Tree.{Ghosts}
use Rattle.ks_tree.specs.Files.{content, IsMoved, HasRisen, kept_or}
use Rattle.ks_tree.specs.declared.fault.TreeFault.{TreeFault}
use Rattle.ks_tree.specs.declared.fault.TreeFault.TheVariants.{OutOfMemory, Device}
use Rattle.ks_tree.specs.declared.fuse.Fuse.{Fuse}
use Rattle.ks_tree.specs.declared.fuse.FuseTree.{FuseTree}
use Rattle.ks_tree.specs.declared.fuse.FuseMode.{FuseMode}
use Rattle.ks_tree.specs.declared.fuse.FuseMode.TheVariants.{Clean, Half}
use Rattle.ks_tree.specs.declared.fuse.Turn.{Turn}
use Rattle.ks_tree.specs.declared.fuse.Turn.TheVariants.{Pass, Fail, HalfDone}

abbrev pub inner_of : {T : Type 0} → FuseTree T → T
inner_of t = t.inner

abbrev pub fuse_of : {T : Type 0} → FuseTree T → Fuse
fuse_of t = t.fuse

-- a fuse of which no call has been counted
abbrev pub fresh_fuse : ℕ → Option ℕ → FuseMode → Fuse
fresh_fuse passes fails mode = record { passes = passes; fails = fails; mode = mode; failed = 0 }

-- whether calls are left that fail, all of them where there is no number
abbrev pub some_fail : Option ℕ → Bool
some_fail None = true
some_fail (Some n) = nat_lt 0 n

abbrev pub one_less : Option ℕ → Option ℕ
one_less None = None
one_less (Some n) = Some (n - 1)

abbrev pub is_half : FuseMode → Bool
is_half Clean = false
is_half Half = true

-- the next call passes
abbrev pub passes_next : Fuse → Bool
passes_next f = nat_lt 0 f.passes || not (some_fail f.fails)

-- Only the first failing call can be half done.
abbrev pub turn_of : Fuse → Turn
turn_of f = if passes_next f then Pass else if is_half f.mode && f.failed == 0 then HalfDone else Fail

-- the fuse after the call
abbrev pub after_call : Fuse → Fuse
after_call f =
    if passes_next f then record f { passes = f.passes - 1 }
    else record f { fails = one_less f.fails; failed = min (f.failed + 1) 18446744073709551615 }

-- The fuse counts each call. One that passes fails by the device only where the tree behind the fuse counted that; any other one fails so.
pub record IsFuseCall {T : Type 0} (tree : Ghosts T) (old new : FuseTree T) (device : Type 0) : Type 0 where
  pub counted : fuse_of new ≡ after_call (fuse_of old)
  pub passed : turn_of (fuse_of old) ≡ Pass → device → HasRisen (tree.failures (inner_of old)) (tree.failures (inner_of new))
  pub failed : (turn_of (fuse_of old) ≡ Pass → ⊥) → device
  pub clean : turn_of (fuse_of old) ≡ Fail → inner_of new ≡ inner_of old

-- the first half of the bytes, rounded down
abbrev pub half_of : List ℕ → List ℕ
half_of bytes = take (length bytes / 2) bytes

-- A half write: the tree behind the fuse was asked to write the first half of the bytes, and this was its answer.
pub record IsHalfWrite {T : Type 0} (tree : Ghosts T) (path bytes : List ℕ) (old new : T) (answer : Result Unit TreeFault) : Type 0 where
  pub asked : tree.writes old path (half_of bytes) new answer
  pub written : tree.is_honest → OnOk answer (content (tree.files new) path ≡ Some (half_of bytes))
  pub refused : tree.is_honest → IsErrOf answer OutOfMemory → tree.files new ≡ tree.files old
  pub failed : IsErrOf answer Device → HasRisen (tree.failures old) (tree.failures new)

-- A half rename: the tree behind the fuse was asked to do it, and this was its answer.
pub record IsHalfRename {T : Type 0} (tree : Ghosts T) (from to : List ℕ) (old new : T) (answer : Result Unit TreeFault) : Type 0 where
  pub asked : tree.renames old from to new answer
  pub moved : tree.is_honest → OnOk answer (IsMoved from to (tree.files old) (tree.files new))
  pub refused : tree.is_honest → IsErrOf answer OutOfMemory → tree.files new ≡ tree.files old
  pub failed : IsErrOf answer Device → HasRisen (tree.failures old) (tree.failures new)

-- A half creation: the tree behind the fuse was asked to make a file of the first half of the bytes, and this was its answer.
pub record IsHalfCreation {T : Type 0} (tree : Ghosts T) (path bytes : List ℕ) (old new : T) (answer : Result Unit TreeFault) : Type 0 where
  pub asked : tree.creates old path (half_of bytes) new answer
  pub made : tree.is_honest → OnOk answer (content (tree.files new) path ≡ Some (kept_or (content (tree.files old) path) (half_of bytes)))
  pub refused : tree.is_honest → IsErrOf answer OutOfMemory → tree.files new ≡ tree.files old
  pub failed : IsErrOf answer Device → HasRisen (tree.failures old) (tree.failures new)

-- What a call that only reads does at a turn of the fuse: one that passes is that of the tree after it, and a failed one did nothing.
abbrev pub OnlyReadsAt : {T : Type 0} → Turn → Type 0 → T → T → Type 0
OnlyReadsAt Pass passed old new = passed
OnlyReadsAt Fail passed old new = new ≡ old
OnlyReadsAt HalfDone passed old new = new ≡ old

-- What a write does at a turn of the fuse: one that passes is that of the tree after it, and a failed one did nothing.
abbrev pub WritesAt : {T : Type 0} → Turn → Ghosts T → T → List ℕ → List ℕ → T → Result Unit TreeFault → Type 0
WritesAt Pass tree old path bytes new answer = tree.writes old path bytes new answer
WritesAt Fail tree old path bytes new answer = new ≡ old
WritesAt HalfDone tree old path bytes new answer = (inner : Result Unit TreeFault) × IsHalfWrite tree path bytes old new inner

-- What a creation does at a turn of the fuse.
abbrev pub CreatesAt : {T : Type 0} → Turn → Ghosts T → T → List ℕ → List ℕ → T → Result Unit TreeFault → Type 0
CreatesAt Pass tree old path bytes new answer = tree.creates old path bytes new answer
CreatesAt Fail tree old path bytes new answer = new ≡ old
CreatesAt HalfDone tree old path bytes new answer = (inner : Result Unit TreeFault) × IsHalfCreation tree path bytes old new inner

-- What a rename does at a turn of the fuse.
abbrev pub RenamesAt : {T : Type 0} → Turn → Ghosts T → T → List ℕ → List ℕ → T → Result Unit TreeFault → Type 0
RenamesAt Pass tree old from to new answer = tree.renames old from to new answer
RenamesAt Fail tree old from to new answer = new ≡ old
RenamesAt HalfDone tree old from to new answer = (inner : Result Unit TreeFault) × IsHalfRename tree from to old new inner
