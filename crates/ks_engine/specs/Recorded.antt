-- What recording an object comes to, and what it leaves.
use Rattle.std.specs.Prelude.{◌≡◌, ◌⊎◌, ◌++◌, ℕ, Bool, false, true, List, [], Option, Some, None, Result, Ok, Err, flat_map, nat_lt, length, if◌then◌else◌}
use Rattle.ks_symbols.specs.Lines.{max_bytes}
use Rattle.ks_fixdep.specs.Dialects.{rules_for}
use Rattle.ks_symbols.specs.declared.dialect.Dialect.{Dialect}
use Rattle.ks_fixdep.specs.DependencyFile.{usual_header}
use Rattle.ks_fixdep.specs.declared.dependency_file.Role.{Role}
use Rattle.ks_fixdep.specs.CommandFile.{CommandRecord, IsLegal, command_text, ended}
use Rattle.ks_fixdep.specs.FoundNames.{names_of}
use Rattle.ks_fixdep.specs.OwnLines.{further_lines}
use Rattle.ks_fixdep.specs.Record.{record_of}
use Rattle.ks_tree.specs.Files.{Files, content, SameButBoth}
use Rattle.ks_tree.specs.Paths.{auto_path, command_path, command_temporary}
use Rattle.ks_engine.specs.declared.conventions.Conventions.{Conventions}
use Rattle.ks_engine.specs.declared.conventions.RecordOptions.{RecordOptions}
use Rattle.ks_engine.specs.declared.error.EngineError.{EngineError}
use Rattle.ks_engine.specs.declared.error.EngineError.TheVariants.{TooLarge}
use Rattle.ks_engine.specs.declared.recording.Recorded.{Recorded}
use Rattle.ks_engine.specs.Refusals.{IsAborted, and_then}
use Rattle.ks_engine.specs.LastSync.{last_generation}
use Rattle.ks_engine.specs.Places.{depfile_at, legal_place, place_of}
use Rattle.ks_engine.specs.Recording.{args, listed_without, scanned_all, with_command}

-- a record against which no refusal stands
pub record RecordPlan : Type 0 where
  pub file : CommandRecord
  pub generation : ℕ
  -- the names found in all prerequisites, and in the command where it is scanned
  pub names : List (List ℕ)
  -- what is written
  pub text : List ℕ

abbrev pub no_options : RecordOptions
no_options = record { adds_own_lines = false; before_sync = false; elsewhere = None }

-- the generation of a record: the last one, and where a build asks for it 0 as long as there is no auto.conf
abbrev pub recorded_at : Bool → Option (List ℕ) → Result ℕ EngineError
recorded_at true None = Ok 0
recorded_at true (Some b) = last_generation (Some b)
recorded_at false file = last_generation file

-- the lines that follow a record where a build asks for them; one that goes by dependency files reads none
abbrev pub lines_after : Conventions → List ℕ → List (List ℕ) → List (List ℕ)
lines_after conventions target names =
    if conventions.scans_command then []
    else further_lines conventions.options.adds_own_lines conventions.dialect (place_of conventions.options) target names

abbrev pub with_further_lines : Conventions → List ℕ → List (List ℕ) → List ℕ → List ℕ
with_further_lines conventions target names text = text ++ flat_map ended (lines_after conventions target names)

-- the command file of a generation
abbrev pub numbered : CommandRecord → ℕ → CommandRecord
numbered file g = record file { generation = Some g }

abbrev pub drafted : Conventions → List ℕ → List ℕ → List (List ℕ × Role) → ℕ → List (List (List ℕ)) → Result RecordPlan EngineError
drafted conventions target command ps g found =
    let file = numbered (record_of target command ps found) g in
    let text = with_further_lines conventions target (names_of found) (command_text file) in
    if nat_lt max_bytes (length text) then Err TooLarge else Ok (record { file = file; generation = g; names = names_of found; text = text })

-- What is to be done, or why it is refused: the words, the place, the dependency file, auto.conf, each prerequisite but the header, by the rules for the target,
-- and the command where it is scanned; and then what would be written.
unfoldable pub record_plan_under : Conventions → Files → List ℕ → List ℕ → List ℕ → Result RecordPlan EngineError
record_plan_under conventions files depfile target command =
    and_then (args depfile target command) (λ _.
    and_then (legal_place conventions.options) (λ _.
    and_then (depfile_at conventions.options depfile (content files depfile)) (λ d.
    and_then (listed_without conventions.header d) (λ ps.
    and_then (recorded_at conventions.options.before_sync (content files auto_path)) (λ g.
    and_then (scanned_all (rules_for conventions.dialect target) files ps) (λ found.
    drafted conventions target command ps g (with_command conventions.scans_command (rules_for conventions.dialect target) command found)))))))

-- The plan for these files and words; its parts are legal.
pub record IsRecordPlanUnder (conventions : Conventions) (files : Files) (depfile target command : List ℕ) (plan : RecordPlan) : Type 0 where
  pub planned : record_plan_under conventions files depfile target command ≡ Ok plan
  pub legal : IsLegal plan.file

-- It was done, and this is its answer. All but the command file and its temporary file, which is gone, is as before.
pub record IsRecordedUnder (conventions : Conventions) (old new : Files) (depfile target command : List ℕ) (answer : Recorded) : Type 0 where
  pub plan : RecordPlan
  pub planned : IsRecordPlanUnder conventions old depfile target command plan
  pub generation : answer.generation ≡ plan.generation
  pub names : answer.names ≡ length plan.names
  pub written : content new (command_path target) ≡ Some plan.text
  pub gone : content new (command_temporary target) ≡ None
  pub others : SameButBoth (command_temporary target) (command_path target) old new

-- It was given up at the write: the command file is the old one or the new one.
pub record IsRecordTriedUnder (conventions : Conventions) (old new : Files) (depfile target command : List ℕ) : Type 0 where
  pub plan : RecordPlan
  pub planned : IsRecordPlanUnder conventions old depfile target command plan
  pub either : (content new (command_path target) ≡ content old (command_path target)) ⊎ (content new (command_path target) ≡ Some plan.text)
  pub others : SameButBoth (command_temporary target) (command_path target) old new

-- It was refused with nothing changed, or given up before the write or at it.
abbrev pub IsRecordRefusedUnder : Conventions → Files → Files → List ℕ → List ℕ → List ℕ → EngineError → Type 0
IsRecordRefusedUnder conventions old new depfile target command e =
    ((record_plan_under conventions old depfile target command ≡ Err e) × (new ≡ old))
    ⊎ (IsAborted e × ((new ≡ old) ⊎ IsRecordTriedUnder conventions old new depfile target command))

-- ---- the same without the usual header, and by the prerequisites alone

abbrev pub usual_with : RecordOptions → Dialect → Conventions
usual_with options dialect = record { header = usual_header dialect; dialect = dialect; scans_command = false; options = options }

abbrev pub usual : Dialect → Conventions
usual dialect = usual_with no_options dialect

abbrev pub record_plan : Dialect → Files → List ℕ → List ℕ → List ℕ → Result RecordPlan EngineError
record_plan dialect files depfile target command = record_plan_under (usual dialect) files depfile target command

abbrev pub IsRecordPlan : Dialect → Files → List ℕ → List ℕ → List ℕ → RecordPlan → Type 0
IsRecordPlan dialect files depfile target command plan = IsRecordPlanUnder (usual dialect) files depfile target command plan

abbrev pub IsRecorded : Dialect → Files → Files → List ℕ → List ℕ → List ℕ → Recorded → Type 0
IsRecorded dialect old new depfile target command answer = IsRecordedUnder (usual dialect) old new depfile target command answer

abbrev pub IsRecordTried : Dialect → Files → Files → List ℕ → List ℕ → List ℕ → Type 0
IsRecordTried dialect old new depfile target command = IsRecordTriedUnder (usual dialect) old new depfile target command

abbrev pub IsRecordRefused : Dialect → Files → Files → List ℕ → List ℕ → List ℕ → EngineError → Type 0
IsRecordRefused dialect old new depfile target command e = IsRecordRefusedUnder (usual dialect) old new depfile target command e
