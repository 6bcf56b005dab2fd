-- What a synchronisation leaves of the files, by which stamps it is to leave.
use Rattle.std.specs.Prelude.{Result}
use Rattle.ks_tree.specs.Files.{Files}
use Rattle.ks_engine.specs.declared.error.EngineError.{EngineError}
use Rattle.ks_engine.specs.declared.synchronise.Report.{Report}
use Rattle.ks_engine.specs.Sources.{FromConf, FromKconfig, Source}
use Rattle.ks_engine.specs.FileRuns.{LeavesStamped, LeavesSync}
use Rattle.ks_requests.specs.declared.request.Stamps.{Stamps}
use Rattle.ks_requests.specs.declared.request.Stamps.TheVariants.{Touched, Declared}

-- what conf wrote doesn't say which symbols are declared
abbrev pub LeavesStamps : Files → Files → Stamps → Source → Result Report EngineError → Type 0
LeavesStamps old new Touched source answer = LeavesSync old new source answer
LeavesStamps old new Declared (FromKconfig k d) answer = LeavesStamped old new k d answer
LeavesStamps old new Declared (FromConf d a h) answer = LeavesSync old new (FromConf d a h) answer
