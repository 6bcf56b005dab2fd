-- The lines that are printed of what the engine answers. Their form is this project's.
use Rattle.std.specs.Prelude.{ℕ, List, [], ◌∷◌, ◌++◌, decimal, flat_map, length, codes, Option, Some, None, Result, Ok, Err}
use Rattle.ks_engine.specs.declared.error.EngineError.{EngineError}
use Rattle.ks_engine.specs.declared.explaining.Cause.{Cause}
use Rattle.ks_engine.specs.declared.explaining.Explanation.{Explanation}
use Rattle.ks_engine.specs.declared.query.Limit.{Limit}
use Rattle.ks_engine.specs.declared.query.Limit.TheVariants.{First, All}
use Rattle.ks_engine.specs.declared.recording.Recorded.{Recorded as RecordAnswer}
use Rattle.ks_engine.specs.declared.repairing.Repaired.{Repaired}
use Rattle.ks_engine.specs.declared.repairing.Repaired.TheVariants.{PutBack, BegunAgain, Nothing}
use Rattle.ks_engine.specs.declared.synchronise.Report.{Report}
use Rattle.ks_engine.specs.declared.staleness.BuildState.{BuildState}
use Rattle.ks_engine.specs.declared.staleness.BuildState.TheVariants.{CommandDiffers, Verdict as Evaluated}
use Rattle.ks_engine.specs.declared.staleness.Verdict.{Verdict as VerdictValue}
use Rattle.ks_engine.specs.declared.staleness.Verdict.TheVariants as verdict
use Rattle.ks_engine.specs.declared.commands.Reply.{Reply}
use Rattle.ks_engine.specs.declared.commands.Reply.TheVariants.{Synced, Recorded, Verdict, Refused}
use Rattle.ks_engine.specs.Actions.{Action, Sync, Record, Stale}
use Rattle.ks_requests.specs.declared.status.Count.{Count}
use Rattle.ks_requests.specs.declared.status.Count.TheVariants as count
use Rattle.ks_requests.specs.Faults.{counted, fault_text}
use Rattle.ks_requests.specs.Preview.{touch_lines}

-- why an object is stale, or that it is fresh
unfoldable pub verdict_text : VerdictValue → List ℕ
verdict_text verdict.Fresh = codes " fresh"
verdict_text (verdict.Changed name) = codes " stale " ++ name
verdict_text verdict.NoCommandFile = codes " stale no-command-file"
verdict_text verdict.Unnumbered = codes " stale not-numbered"
verdict_text verdict.Ahead = codes " stale generation-ahead"

-- one line each: an object with its verdict, what was recorded, and what was synchronised
unfoldable pub verdict_line : List ℕ → VerdictValue → List ℕ
verdict_line target v = target ++ verdict_text v ++ codes "\n"

-- a name that was touched, with the number of its stamp and the file after which it stands
unfoldable pub cause_line : Cause → List ℕ
cause_line c = codes "  " ++ c.name ++ counted (codes " generation ") c.generation ++ codes " " ++ c.place ++ codes "\n"

-- an object with its verdict, and where all of its causes were asked for a line for each
unfoldable pub explanation_lines : Limit → List ℕ → Explanation → List ℕ
explanation_lines First target e = verdict_line target e.verdict
explanation_lines All target e = verdict_line target e.verdict ++ flat_map cause_line e.causes.items

-- what was recorded of an object, after the name of the command
abbrev pub recorded_as : List ℕ → List ℕ → RecordAnswer → List ℕ
recorded_as command target r = command ++ target ++ counted (codes " generation ") r.generation ++ counted (codes " names ") r.names ++ codes "\n"

unfoldable pub recorded_line : List ℕ → RecordAnswer → List ℕ
recorded_line target r = recorded_as (codes "record ") target r

unfoldable pub depfile_line : List ℕ → RecordAnswer → List ℕ
depfile_line target r = recorded_as (codes "depfile ") target r

unfoldable pub synced_line : Report → List ℕ
synced_line r =
    counted (codes "sync generation ") r.generation ++ counted (codes " touched ") (length r.touched.items)
    ++ counted (codes " unknown ") r.unknown ++ codes "\n"

-- a synchronisation with a line for each touched name
unfoldable pub report_lines : Report → List ℕ
report_lines r = counted (codes "generation ") r.generation ++ codes "\n" ++ touch_lines r.touched.items ++ counted (codes "unknown ") r.unknown ++ codes "\n"

-- the generation that is back with the number of stamps that were renewed, or the highest number of those that are lost
unfoldable pub repair_line : Repaired → List ℕ
repair_line (PutBack generation stamps) = counted (codes "put back ") generation ++ counted (codes " touched ") stamps ++ codes "\n"
repair_line (BegunAgain generation) = counted (codes "began again ") generation ++ codes "\n"
repair_line Nothing = codes "no numbers\n"

-- how many objects are marked
unfoldable pub marked_line : ℕ → List ℕ
marked_line count = counted (codes "marked ") count ++ codes "\n"

-- an object that was built by another command, or its verdict
unfoldable pub build_line : List ℕ → BuildState → List ℕ
build_line target CommandDiffers = target ++ codes " command-differs\n"
build_line target (Evaluated v) = verdict_line target v

-- a fault, and that of an object
unfoldable pub refused_line : EngineError → List ℕ
refused_line e = codes "refused " ++ fault_text e ++ codes "\n"

unfoldable pub refused_target_line : List ℕ → EngineError → List ℕ
refused_target_line target e = target ++ codes " " ++ refused_line e

-- the answer to a question about an object
abbrev pub answer_line : {A : Type 0} → (List ℕ → A → List ℕ) → List ℕ → Result A EngineError → List ℕ
answer_line line target (Ok x) = line target x
answer_line line target (Err e) = refused_target_line target e

-- how many of all objects are stale, which names are unknown, or how many objects name a symbol, where that is printed
unfoldable pub count_line : Option Count → List ℕ
count_line None = []
count_line (Some (count.Stale stale all)) = decimal stale ++ counted (codes " of ") all ++ codes " stale\n"
count_line (Some (count.Unknown lines)) = lines.items
count_line (Some (count.Users users all)) = decimal users ++ counted (codes " of ") all ++ codes " objects\n"

-- the line of an action with its reply
unfoldable pub reply_line : Action → Reply → List ℕ
reply_line (Sync kconfig dotconfig) (Synced report) = synced_line report
reply_line (Record options depfile target command) (Recorded answer) = recorded_line target answer
reply_line (Stale target) (Verdict v) = verdict_line target v
reply_line (Stale target) (Refused e) = refused_target_line target e
reply_line _ (Refused e) = refused_line e
reply_line _ _ = []

-- one line for each action with its reply
unfoldable pub reply_lines : List Action → List Reply → List ℕ
reply_lines (action ∷ actions) (reply ∷ replies) = reply_line action reply ++ reply_lines actions replies
reply_lines _ _ = []
