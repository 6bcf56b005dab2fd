-- The calls of a system by which a command comes to its directory.
use Rattle.std.specs.Prelude.{ℕ, List, Option, Result}
use Rattle.std.specs.declared.fs.locks.TryLockError.{TryLockError}
use Rattle.std.specs.declared.io.Error.{Error}
use Rattle.ks_session.specs.declared.lock.DirectoryLock.{DirectoryLock}
use Rattle.ks_session.specs.declared.start.Loss.{Loss}

-- a call with its answer, over trees of one type and locks of another; where it changes the tree, that before it and after it
pub data Event (P L : Type 0) : Type 0 where
  -- the directory is there, or why it is not to be had
  Looked : (directory : List ℕ) (answer : Result (Unit {0}) Error) → Event P L
  -- a number that nobody can know, where there is one
  Drew : (seed : Option ℕ) → Event P L
  -- the tree of a directory, under such a number
  Opened : (directory : List ℕ) (seed : ℕ) (tree : P) → Event P L
  -- a lock on a directory was asked for, and so many seconds waited for
  Locked : (directory : List ℕ) (lock : DirectoryLock) (seconds : ℕ) (old : P) (answer : Result (Option L) TryLockError) (new : P) → Event P L
  -- the tree of a directory was searched, and this is what would be lost of its numbers, or nothing
  Found : (directory : List ℕ) (old : P) (loss : Option Loss) (new : P) → Event P L
  -- what was found at a path is held
  Held : (old : P) (path : List ℕ) (found : Option (List ℕ)) (new : P) → Event P L
