-- What an answer about a recorded object says, by the history that the files show.
use Rattle.std.specs.Prelude.{◌≡◌, ◌⊎◌, ℕ, List, Some, Result, Ok, IsTrue, true, false, bytes_eq}
use Rattle.ks_output.specs.Definitions.{definitions}
use Rattle.ks_symbols.specs.Names.{is_in, header_path}
use Rattle.ks_fixdep.specs.CommandFile.{is_command}
use Rattle.ks_tree.specs.Files.{Files, content}
use Rattle.ks_engine.specs.declared.error.EngineError.{EngineError}
use Rattle.ks_engine.specs.declared.staleness.Verdict.{Verdict}
use Rattle.ks_engine.specs.declared.staleness.Verdict.TheVariants.{Fresh}
use Rattle.ks_engine.specs.declared.staleness.BuildState.{BuildState}
use Rattle.ks_engine.specs.declared.staleness.BuildState.TheVariants.{CommandDiffers}
use Rattle.ks_engine.specs.Refusals.{IsAbortedAnswer}
use Rattle.ks_engine.specs.History.{History, LastRecord, last_record, NoneBroken}
use Rattle.ks_engine.specs.Staleness.{first_changed, first_suspect, verdict}
use Rattle.ks_engine.specs.Shows.{Shows}
use Rattle.ks_engine.specs.BuildStates.{evaluated}

-- The header in the tree defines each of the names in the same lines as the header at the record.
abbrev pub HasSameDefinitions : Files → LastRecord → Type 0
HasSameDefinitions files r = (x : List ℕ) → is_in r.names x ≡ true → (b : List ℕ) × (content files header_path ≡ Some b)
    × (definitions x b ≡ definitions x r.header)

pub record IsEvaluated (files : Files) (h : History) (o : List ℕ) (r : LastRecord) (answer : Result Verdict EngineError) : Type 0 where
  -- It is stale by the first of its names that is suspect, and else fresh.
  pub suspect : IsAbortedAnswer answer ⊎ (answer ≡ Ok (verdict (first_suspect h o)))
  -- Where no synchronisation was broken off, that is the first that one of them changed since the record.
  pub changed : NoneBroken h → IsAbortedAnswer answer ⊎ (answer ≡ Ok (verdict (first_changed h o)))
  -- Where it is fresh, its names are defined as at its record.
  pub safe : answer ≡ Ok Fresh → HasSameDefinitions files r

-- of each object that is recorded in a history that the files show
abbrev pub EvaluatesRecorded : Files → List ℕ → Result Verdict EngineError → Type 0
EvaluatesRecorded files o answer = (h : History) (r : LastRecord) → Shows files h → last_record h o ≡ Some r → IsEvaluated files h o r answer

-- Its command is compared first: where it is another one than that of the record, nothing else is said.
pub record IsBuildEvaluated (files : Files) (h : History) (o command : List ℕ) (r : LastRecord) (answer : Result BuildState EngineError) : Type 0 where
  pub differs : bytes_eq r.command command ≡ false → IsAbortedAnswer answer ⊎ (answer ≡ Ok CommandDiffers)
  pub same : bytes_eq r.command command ≡ true → (verdict : Result Verdict EngineError) × (answer ≡ evaluated verdict) × IsEvaluated files h o r verdict

-- of each object that is recorded in such a history
abbrev pub EvaluatesBuild : Files → List ℕ → List ℕ → Result BuildState EngineError → Type 0
EvaluatesBuild files o command answer =
    IsTrue (is_command command) → (h : History) (r : LastRecord) → Shows files h → last_record h o ≡ Some r → IsBuildEvaluated files h o command r answer
