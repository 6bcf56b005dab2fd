-- What a process sees of a tree in which others record at the same time.
use Rattle.std.specs.Prelude.{◌≡◌, ℕ, List, Option, Some, None, Bool, true, false, ◌||◌, ◌&&◌, not, nat_eq, bytes_eq, if◌then◌else◌}
use Rattle.std.specs.List.{list_any}
use Rattle.ks_tree.specs.Files.{Files}
use Rattle.ks_tree.specs.Paths.{command_path, command_temporary, Place, CommandFile, CommandTemporary, path_of, IsLegalPlace}
use Rattle.ks_engine.specs.History.{History, Begun, Synced, Broken, Recorded}
use Rattle.ks_engine.specs.Shows.{Shows}
use Rattle.ks_parallel.specs.Calls.{view}

-- who records what: the numbers of processes, with targets
abbrev pub Jobs : Type 0
Jobs = List (ℕ × List ℕ)

-- a target that the process records, and one that another process records
abbrev pub is_own_job : Jobs → ℕ → List ℕ → Bool
is_own_job jobs i o = list_any (λ job. nat_eq job.0 i && bytes_eq job.1 o) jobs

abbrev pub is_others_job : Jobs → ℕ → List ℕ → Bool
is_others_job jobs i o = list_any (λ job. not (nat_eq job.0 i) && bytes_eq job.1 o) jobs

-- No target is recorded by two processes.
abbrev pub AreApart : Jobs → Type 0
AreApart jobs = (i : ℕ) (o : List ℕ) → is_own_job jobs i o ≡ true → is_others_job jobs i o ≡ false

-- the two files that are written where a target is recorded
abbrev pub is_written_for : List ℕ → List ℕ → Bool
is_written_for o q = bytes_eq (command_path o) q || bytes_eq (command_temporary o) q

-- A process sees all paths but those that are written for the targets of others.
abbrev pub sees : Jobs → ℕ → List ℕ → Bool
sees jobs i q = not (list_any (λ job. not (nat_eq job.0 i) && is_written_for job.1 q) jobs)

-- a history without the records of these objects
abbrev pub without : (List ℕ → Bool) → History → History
without hidden (Begun texts generation stamps) = Begun texts generation stamps
without hidden (Synced title config past) = Synced title config (without hidden past)
without hidden (Broken title config renewed past) = Broken title config renewed (without hidden past)
without hidden (Recorded object command names header past) =
    if hidden object then without hidden past else Recorded object command names header (without hidden past)

-- the target whose record writes a file
abbrev pub target_of : Place → Option (List ℕ)
target_of (CommandFile target) = Some target
target_of (CommandTemporary target) = Some target
target_of place = None

-- By such views each process sees all files of the commands but those that are written for the targets of others.
abbrev pub SeesPlaces : Jobs → (ℕ → List ℕ → Bool) → Type 0
SeesPlaces jobs seen =
    (i : ℕ) (q : Place) → IsLegalPlace q → ((o : List ℕ) → target_of q ≡ Some o → is_others_job jobs i o ≡ false) → seen i (path_of q) ≡ true

abbrev pub AllPlacesAreSeen : Type 0
AllPlacesAreSeen = (jobs : Jobs) → SeesPlaces jobs (sees jobs)

-- What is shown to a process: the files that it sees show the history without the records of the targets of others.
abbrev pub ViewsShow : Type 0
ViewsShow =
    (jobs : Jobs) (seen : ℕ → List ℕ → Bool) (i : ℕ) (files : Files) (h : History) → SeesPlaces jobs seen → Shows files h
    → Shows (view (seen i) files) (without (is_others_job jobs i) h)
