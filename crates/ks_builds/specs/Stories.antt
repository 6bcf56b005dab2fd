-- Stories of a tree: runs of the program, with what others do between them.
use Rattle.std.specs.Prelude.{◌≡◌, ℕ, List, [], ◌∷◌, Bool, ⊤}
use Rattle.ks_symbols.specs.Configuration.{Configuration}
use Rattle.ks_symbols.specs.declared.dialect.Dialect.{Dialect}
use Rattle.ks_engine.specs.FileRuns.{FileState}
use Rattle.ks_engine.specs.Follows.{TreeState, at}
use Rattle.ks_engine.specs.History.{History, Broken, NoneBroken}
use Rattle.ks_engine.specs.Runs.{IsShown}
use Rattle.ks_engine.specs.Shows.{Shows}
use Rattle.ks_requests.specs.declared.request.Request.{Request}
use Rattle.ks_requests.specs.Endings.{Ending}
use Rattle.ks_commands.specs.Histories.{Continues, IsFollowed}
use Rattle.ks_commands.specs.Programs.{ProgramReportsChanges}
use Rattle.ks_commands.specs.Performed.{Ends, by_files}
use Rattle.ks_parallel.specs.Views.{without}
use Rattle.ks_builds.specs.Between.{IsRepaired, SaysTheSame}

pub data Happening : Type 0 where
  -- a run of the program, over an honest tree, of a request that histories follow
  Ran : (dialect : Dialect) (request : Request) (ended : Ending) → Happening
  -- others wrote, and the records of these objects are gone
  Written : (gone : List ℕ → Bool) → Happening
  -- another tool synchronised, and was repaired
  Repaired : (gone : List ℕ → Bool) (title : List ℕ) (config : Configuration) (renewed : List (List ℕ)) → Happening

-- by the files of the tree
abbrev pub LeavesFiles : Happening → FileState → FileState → Type 0
LeavesFiles (Ran dialect request ended) old new = IsFollowed request × Ends ⊤ (by_files dialect ⊤ old new) old request ended new
LeavesFiles (Written gone) old new = SaysTheSame gone old.files new.files
LeavesFiles (Repaired gone title config renewed) old new = IsRepaired gone title config renewed old.files new.files

-- and by its history
abbrev pub Leaves : Happening → TreeState → TreeState → Type 0
Leaves (Ran dialect request ended) old new = Continues dialect request ended old new
Leaves (Written gone) old new = SaysTheSame gone old.files new.files × (new.history ≡ without gone old.history)
Leaves (Repaired gone title config renewed) old new =
    IsRepaired gone title config renewed old.files new.files × (new.history ≡ Broken title config renewed (without gone old.history))

abbrev pub FileStory : FileState → List Happening → FileState → Type 0
FileStory first [] last = last ≡ first
FileStory first (e ∷ es) last = (next : FileState) × LeavesFiles e first next × FileStory next es last

-- Each happening begins where the one before it ended, and each state is shown.
abbrev pub Story : TreeState → List Happening → TreeState → Type 0
Story first [] last = last ≡ first
Story first (e ∷ es) last = (next : TreeState) × Leaves e first next × IsShown next × Story next es last

-- From each history that the first files show there is a story, and the last files show its last history.
abbrev pub StoriesAreShown : Type 0
StoriesAreShown =
    (first : FileState) (es : List Happening) (last : FileState) (h : History) → Shows first.files h → FileStory first es last
    → (next : History) × Story (at first.files first.failures h) es (at last.files last.failures next) × Shows last.files next

-- What a run prints of recorded objects is what changed since their records.
abbrev pub ReportsBy : Happening → TreeState → TreeState → Type 0
ReportsBy (Ran dialect request ended) old new =
    ProgramReportsChanges (record { dialect = dialect; before = old; request = request; ended = ended; after = new })
ReportsBy e old new = ⊤

-- a story in which each run does so
abbrev pub ReportingStory : TreeState → List Happening → TreeState → Type 0
ReportingStory first [] last = last ≡ first
ReportingStory first (e ∷ es) last = (next : TreeState) × Leaves e first next × IsShown next × ReportsBy e first next × ReportingStory next es last

-- So does each run of a story in which no synchronisation was interrupted, and no other tool synchronised.
abbrev pub StoriesReportChanges : Type 0
StoriesReportChanges = (first : TreeState) (es : List Happening) (last : TreeState) → IsShown first → Story first es last → NoneBroken last.history → ReportingStory first es last
