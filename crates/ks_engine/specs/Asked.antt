-- What is answered of an object, by the files: first its target, then its command file, then auto.conf, then its stamps.
use Rattle.std.specs.Prelude.{◌≡◌, ◌⊎◌, ℕ, List, [], Option, Some, None, Result, Ok, Err, IfOk, nat_lt, if◌then◌else◌, length, bytes_eq}
use Rattle.ks_symbols.specs.Lines.{max_bytes}
use Rattle.ks_symbols.specs.Names.{is_target}
use Rattle.ks_fixdep.specs.CommandFile.{CommandRecord}
use Rattle.ks_fixdep.specs.CommandReading.{reading}
use Rattle.ks_tree.specs.Files.{Files, content}
use Rattle.ks_tree.specs.Paths.{auto_path, command_path}
use Rattle.ks_engine.specs.declared.error.EngineError.{EngineError}
use Rattle.ks_engine.specs.declared.error.EngineError.TheVariants.{TooLarge, BadPath, BadCommandFile}
use Rattle.ks_engine.specs.declared.explaining.Cause.{Cause}
use Rattle.ks_engine.specs.declared.explaining.Explanation.{Explanation}
use Rattle.ks_engine.specs.declared.query.Limit.{Limit}
use Rattle.ks_engine.specs.declared.query.Limit.TheVariants.{First}
use Rattle.ks_engine.specs.declared.staleness.Verdict.{Verdict}
use Rattle.ks_engine.specs.declared.staleness.Verdict.TheVariants.{NoCommandFile, Unnumbered, Ahead}
use Rattle.ks_engine.specs.Causes.{IsByStamps, names_placed, verdict_of}
use Rattle.ks_engine.specs.LastSync.{last_generation}
use Rattle.ks_engine.specs.Refusals.{IsAbortedAnswer}

-- an answer at once, or by the stamps of these names, each with its place, against a generation
pub data Asked : Type 0 where
  AtOnce : (answer : Result Verdict EngineError) → Asked
  ByStamps : (generation : ℕ) (names : List (List ℕ × List ℕ)) → Asked

abbrev pub asked_at : ℕ → List (List ℕ × List ℕ) → Result ℕ EngineError → Asked
asked_at g names (Err e) = AtOnce (Err e)
asked_at g names (Ok last) = if nat_lt last g then AtOnce (Ok Ahead) else ByStamps g names

-- an object whose command file has a generation, or none
abbrev pub asked_since : Files → List (List ℕ × List ℕ) → Option ℕ → Asked
asked_since files names None = AtOnce (Ok Unnumbered)
asked_since files names (Some g) = asked_at g names (last_generation (content files auto_path))

abbrev pub of_target : List ℕ → Result CommandRecord ℕ → Result (Option CommandRecord) EngineError
of_target o (Err line) = Err (BadCommandFile line)
of_target o (Ok file) = if bytes_eq file.target o then Ok (Some file) else Err (BadCommandFile 1)

-- the command file of an object, which must be that of its target
abbrev pub command_file : List ℕ → Option (List ℕ) → Result (Option CommandRecord) EngineError
command_file o None = Ok None
command_file o (Some b) = if nat_lt max_bytes (length b) then Err TooLarge else of_target o (reading b)

abbrev pub asked_of : Files → Result (Option CommandRecord) EngineError → Asked
asked_of files (Err e) = AtOnce (Err e)
asked_of files (Ok None) = AtOnce (Ok NoCommandFile)
asked_of files (Ok (Some file)) = asked_since files (names_placed file) file.generation

-- what an object's files say before its stamps
unfoldable pub asked : Files → List ℕ → Asked
asked files o = if is_target o then asked_of files (command_file o (content files (command_path o))) else AtOnce (Err (BadPath 0))

-- ---- a verdict

-- that of the causes that were found
abbrev pub verdict_by : Result (List Cause) EngineError → Result Verdict EngineError
verdict_by (Ok causes) = Ok (verdict_of causes)
verdict_by (Err e) = Err e

-- It is that of the first cause. No stamp is looked at after it.
abbrev pub IsAnswer : Files → Asked → Result Verdict EngineError → Type 0
IsAnswer files (AtOnce known) answer = answer ≡ known
IsAnswer files (ByStamps g names) answer = (found : Result (List Cause) EngineError) × IsByStamps First files g names found × (answer ≡ verdict_by found)

-- .. memory and the device aside
abbrev pub IsAnswerOn : Files → List ℕ → Result Verdict EngineError → Type 0
IsAnswerOn files o answer = IsAbortedAnswer answer ⊎ IsAnswer files (asked files o) answer

-- ---- an explanation

-- its verdict, and its causes
abbrev pub reported : Result Explanation EngineError → Result Verdict EngineError
reported (Ok e) = Ok e.verdict
reported (Err e) = Err e

abbrev pub listed : Result Explanation EngineError → Result (List Cause) EngineError
listed (Ok e) = Ok e.causes.items
listed (Err e) = Err e

-- An answer at once has no causes.
abbrev pub IsExplainedBy : Limit → Files → Asked → Result Explanation EngineError → Type 0
IsExplainedBy limit files (AtOnce known) answer = (reported answer ≡ known) × IfOk answer (λ e. e.causes.items ≡ [])
IsExplainedBy limit files (ByStamps g names) answer = IsByStamps limit files g names (listed answer) × (reported answer ≡ verdict_by (listed answer))

abbrev pub IsExplained : Limit → Files → List ℕ → Result Explanation EngineError → Type 0
IsExplained limit files o answer = IsExplainedBy limit files (asked files o) answer
