-- Records of several processes at once: the files that they leave together show a history with each shuffle of these records.
use Rattle.std.specs.Prelude.{◌≡◌, ℕ, List, [], ◌∷◌, Bool, true}
use Rattle.ks_tree.specs.Files.{Files}
use Rattle.ks_engine.specs.History.{History, Recorded}
use Rattle.ks_engine.specs.Legal.{IsHistory}
use Rattle.ks_engine.specs.Shows.{Shows}
use Rattle.ks_engine.specs.Staleness.{found, first_changed, first_suspect}
use Rattle.ks_parallel.specs.Calls.{Call, after_all, AllFind, view}
use Rattle.ks_parallel.specs.Orders.{own, all, EachOf, IsOrderOf, KeepsApart}
use Rattle.ks_parallel.specs.Views.{Jobs, AreApart, SeesPlaces, is_own_job, is_others_job, without}

-- a record as an event
pub record RecordEvent : Type 0 where
  pub object : List ℕ
  pub command : List ℕ
  pub names : List (List ℕ)
  pub header : List ℕ

abbrev pub with_record : History → RecordEvent → History
with_record h e = Recorded e.object e.command e.names e.header h

-- a history, and then these records
abbrev pub with_records : History → List RecordEvent → History
with_records h [] = h
with_records h (e ∷ es) = with_records (with_record h e) es

-- The record is of a target of this process.
abbrev pub IsOfJob : Jobs → ℕ → RecordEvent → Type 0
IsOfJob jobs i e = is_own_job jobs i e.object ≡ true

-- What each process sees shows its own records after the history. Then all files show each shuffle of the records after it.
abbrev pub ShufflesAreShown : Type 0
ShufflesAreShown =
    (jobs : Jobs) (seen : ℕ → List ℕ → Bool) (files : Files) (h : History) (shuffle : List (ℕ × RecordEvent)) → AreApart jobs → SeesPlaces jobs seen
    → EachOf (IsOfJob jobs) shuffle → IsHistory h
    → ((i : ℕ) → Shows (view (seen i) files) (with_records (without (is_others_job jobs i) h) (own i shuffle)))
    → Shows files (with_records h (all shuffle))

-- What is said of an object by two histories: its names, and the first one for which it is stale.
pub record SaysTheSame (g h : History) (o : List ℕ) : Type 0 where
  pub found : found g o ≡ found h o
  pub changed : first_changed g o ≡ first_changed h o
  pub suspect : first_suspect g o ≡ first_suspect h o

-- Each shuffle says the same of each object.
abbrev pub ShufflesSayTheSame : Type 0
ShufflesSayTheSame =
    (jobs : Jobs) (h : History) (shuffle other : List (ℕ × RecordEvent)) (o : List ℕ) → AreApart jobs → EachOf (IsOfJob jobs) shuffle
    → IsOrderOf (λ i. own i shuffle) other → SaysTheSame (with_records h (all other)) (with_records h (all shuffle)) o

-- Calls of several processes in any order, from a tree that shows a history. Where the own calls of each, made alone of what it sees, lead to files that
-- show its records, all calls together lead to files that show each shuffle of the records.
abbrev pub SideBySide : Type 0
SideBySide =
    (jobs : Jobs) (seen : ℕ → List ℕ → Bool) (files : Files) (h : History) (calls : List (ℕ × Call)) (shuffle : List (ℕ × RecordEvent)) → AreApart jobs
    → SeesPlaces jobs seen → EachOf (IsOfJob jobs) shuffle → Shows files h → EachOf (KeepsApart seen) calls → AllFind files (all calls)
    → ((i : ℕ) → Shows (after_all (view (seen i) files) (own i calls)) (with_records (without (is_others_job jobs i) h) (own i shuffle)))
    → Shows (after_all files (all calls)) (with_records h (all shuffle))
