-- What marking leaves of a history.
use Rattle.std.specs.Prelude.{◌≡◌, ℕ, List, Some, Bool, true, false}
use Rattle.ks_symbols.specs.Names.{is_in}
use Rattle.ks_tree.specs.Files.{Files, content}
use Rattle.ks_tree.specs.Paths.{command_path}
use Rattle.ks_engine.specs.declared.backdating.BackdateScope.{BackdateScope}
use Rattle.ks_engine.specs.Evaluated.{HasSameDefinitions}
use Rattle.ks_engine.specs.History.{History, LastRecord, last_record}
use Rattle.ks_engine.specs.Marks.{MarksAll, marked_in}
use Rattle.ks_engine.specs.Shows.{Shows}
use Rattle.ks_parallel.specs.Views.{without}

-- Some of these objects are marked, and all other command files are as before. The history goes on without the records of the marked ones, and
-- of each other one of these that is recorded the header defines the names as then.
pub record GoesOnWithout (objects : List (List ℕ)) (old new : Files) (h : History) : Type 0 where
  pub gone : List ℕ → Bool
  pub marks : (o : List ℕ) → gone o ≡ true → (is_in objects o ≡ true) × (path : List ℕ) × (before : Files)
      × (content new (command_path o) ≡ marked_in o path (content before (command_path o)))
  pub kept : (o : List ℕ) → gone o ≡ false → content new (command_path o) ≡ content old (command_path o)
  pub shows : Shows new (without gone h)
  pub safe : (o : List ℕ) (r : LastRecord) → is_in objects o ≡ true → gone o ≡ false → last_record h o ≡ Some r → HasSameDefinitions old r

-- So make may leave each object that `mark` was asked about and whose command file it left.
abbrev pub WhatIsNotMarkedIsSafe : Type 0
WhatIsNotMarkedIsSafe =
    (which : BackdateScope) (objects : List (List ℕ)) (old new : Files) (count : ℕ) (h : History) → Shows old h → MarksAll which objects old new count
    → GoesOnWithout objects old new h
