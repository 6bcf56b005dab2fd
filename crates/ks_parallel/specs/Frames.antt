-- The paths of a record: those that it reads decide what it comes to, and it writes few.
use Rattle.std.specs.Prelude.{◌≡◌, ◌≢◌, ◌⊎◌, ℕ, List, [], ◌∷◌, Option, Some, None, Result, true, map, IsTrue}
use Rattle.ks_symbols.specs.Names.{is_in, is_name}
use Rattle.ks_fixdep.specs.DependencyFile.{prerequisites_without}
use Rattle.ks_tree.specs.Files.{Files, content, SameButBoth}
use Rattle.ks_tree.specs.Paths.{auto_path, command_path, command_temporary, stamp_path, temporary}
use Rattle.ks_engine.specs.declared.conventions.Conventions.{Conventions}
use Rattle.ks_engine.specs.declared.error.EngineError.{EngineError}
use Rattle.ks_engine.specs.declared.recording.Recorded.{Recorded}
use Rattle.ks_engine.specs.Places.{placed_by}
use Rattle.ks_engine.specs.Recorded.{record_plan_under}
use Rattle.ks_engine.specs.FileRuns.{LeavesDepfile, LeavesRecord}

-- the prerequisites of a dependency file, where there is one, but for a header
abbrev pub prerequisite_paths : Conventions → Option (List ℕ) → List (List ℕ)
prerequisite_paths conventions None = []
prerequisite_paths conventions (Some d) = map (λ p. p.0) (prerequisites_without conventions.header (placed_by conventions.options d))

-- the dependency file, auto.conf and the prerequisites
abbrev pub paths_read : Conventions → Files → List ℕ → List (List ℕ)
paths_read conventions files depfile = depfile ∷ auto_path ∷ prerequisite_paths conventions (content files depfile)

-- Files that are the same at these paths come to the same plan, or to the same refusal, however the sources are read.
abbrev pub RecordsGoByWhatTheyRead : Type 0
RecordsGoByWhatTheyRead =
    (conventions : Conventions) (files other : Files) (depfile target command : List ℕ)
    → ((q : List ℕ) → is_in (paths_read conventions files depfile) q ≡ true → content other q ≡ content files q)
    → record_plan_under conventions other depfile target command ≡ record_plan_under conventions files depfile target command

-- A record, done or refused or given up, leaves each path but its command file and that one's temporary file.
abbrev pub RecordsWriteTwoPaths : Type 0
RecordsWriteTwoPaths =
    (conventions : Conventions) (old new : Files) (depfile target command : List ℕ) (answer : Result Recorded EngineError) → LeavesRecord conventions old new depfile target command answer
    → SameButBoth (command_temporary target) (command_path target) old new

-- the stamp of a name, which was missing and is empty
abbrev pub IsMadeStamp : Files → Files → List ℕ → Type 0
IsMadeStamp old new q = (x : List ℕ) × IsTrue (is_name x) × (q ≡ stamp_path x) × (content old q ≡ None) × (content new q ≡ Some [])

-- One that goes by the dependency file leaves each path but these two, that file and its temporary file, or has made a missing stamp there.
abbrev pub DepfilesWriteTheirPaths : Type 0
DepfilesWriteTheirPaths =
    (conventions : Conventions) (old new : Files) (depfile target command : List ℕ) (answer : Result Recorded EngineError)
    → LeavesDepfile conventions old new depfile target command answer → (q : List ℕ) → q ≢ command_path target → q ≢ command_temporary target → q ≢ depfile
    → q ≢ temporary depfile → (content new q ≡ content old q) ⊎ IsMadeStamp old new q
