-- How a history that the files show goes on with a request, by how the request ended.
use Rattle.std.specs.Prelude.{◌≤◌, ℕ, List, [], Result, ⊤}
use Rattle.ks_symbols.specs.declared.dialect.Dialect.{Dialect}
use Rattle.ks_engine.specs.declared.commands.Reply.{Reply}
use Rattle.ks_engine.specs.declared.error.EngineError.{EngineError}
use Rattle.ks_engine.specs.declared.synchronise.Report.{Report}
use Rattle.ks_engine.specs.Actions.{Action, calls_of}
use Rattle.ks_engine.specs.Depfile.{FollowsDepfile, ruled_by}
use Rattle.ks_engine.specs.FileRuns.{FileState}
use Rattle.ks_engine.specs.Follows.{TreeState, at, IsSame, FollowsRecordUnder, FollowsSync}
use Rattle.ks_engine.specs.Recorded.{usual_with}
use Rattle.ks_engine.specs.Sources.{FromConf, FromKconfig, Source}
use Rattle.ks_engine.specs.Runs.{Run}
use Rattle.ks_engine.specs.AllStamps.{FollowsSyncAllStamps}
use Rattle.ks_requests.specs.declared.request.Request.{Request}
use Rattle.ks_requests.specs.declared.request.Request.TheVariants.{Mark, Repair}
use Rattle.ks_requests.specs.declared.request.Stamps.{Stamps}
use Rattle.ks_requests.specs.declared.request.Stamps.TheVariants.{Touched, Declared}
use Rattle.ks_requests.specs.Endings.{Ending}
use Rattle.ks_commands.specs.Performed.{Effects, Ends, by_files}

-- a tree without its history, and with the files that it has aged, which no history tells
abbrev pub state_of : TreeState → List (List ℕ) → FileState
state_of s backdated = record { files = s.files; failures = s.failures; backdated = backdated }

-- a synchronisation, by which stamps it is to leave
abbrev pub FollowsStamps : Stamps → Source → Result Report EngineError → TreeState → TreeState → Type 0
FollowsStamps Touched source answer old new = FollowsSync source answer old new
FollowsStamps Declared (FromKconfig k d) answer old new = FollowsSyncAllStamps k d answer old new
FollowsStamps Declared (FromConf d a h) answer old new = FollowsSync (FromConf d a h) answer old new

-- The files of a script are read before its run begins.
abbrev pub Runs : Dialect → TreeState → TreeState → List Action → List Reply → Type 0
Runs dialect old new actions replies = (failures : ℕ) × (old.failures ≤ failures) × Run dialect (at old.files failures old.history) (calls_of actions replies) new

-- A request that histories follow. A repair is none, since what was kept may be anything, nor is a mark, since what is marked has no record then.
abbrev pub IsFollowed : Request → Type 0
IsFollowed (Repair stamps targets kept) = ⊥
IsFollowed (Mark which targets) = ⊥
IsFollowed request = ⊤

-- What changes a tree is the next event. A question adds none, and what it is answered by the files holds of each history that they show.
abbrev pub by_histories : Dialect → TreeState → TreeState → Effects
by_histories dialect old new = record (by_files dialect ⊤ (state_of old []) (state_of new [])) {
  same = IsSame old new;
  sync = λ stamps source answer. FollowsStamps stamps source answer old new;
  recording = λ options d t c answer. FollowsRecordUnder (usual_with options dialect) d t c answer old new;
  ruling = λ header options d t c answer. FollowsDepfile (ruled_by header options dialect) d t c answer old new;
  repair = λ inputs answer. ⊥;
  mark = λ which objects answer. ⊥;
  run = Runs dialect old new;
}

-- The next state of a tree, by this request that ended so.
abbrev pub Continues : Dialect → Request → Ending → TreeState → TreeState → Type 0
Continues dialect request ended old new =
    (a b : List (List ℕ)) × Ends ⊤ (by_histories dialect old new) (state_of old a) request ended (state_of new b)
