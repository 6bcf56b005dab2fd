-- Other spellings of one path: `./x.o` and `a//b.o` name the files `x.o` and `a/b.o`, and an object is recorded under one of them.
use Rattle.std.specs.Prelude.{◌==◌, ◌||◌, ◌++◌, ℕ, Bool, true, false, List, [], Option, Some, None, Result, Ok, Err, bytes_eq, codes, drop, flat_map, length, nat_eq, if◌then◌else◌}
use Rattle.std.specs.List.{slice_split, starts_with}
use Rattle.ks_fixdep.specs.CommandFile.{CommandRecord}
use Rattle.ks_tree.specs.Files.{Files}
use Rattle.ks_engine.specs.declared.error.EngineError.{EngineError}
use Rattle.ks_engine.specs.declared.error.EngineError.TheVariants.{BadCommandFile}
use Rattle.ks_engine.specs.declared.explaining.Explanation.{Explanation}
use Rattle.ks_engine.specs.declared.staleness.Verdict.{Verdict}
use Rattle.ks_engine.specs.declared.staleness.Verdict.TheVariants.{NoCommandFile}
use Rattle.ks_engine.specs.Costs.{record_at}

-- the parts of a path between its slashes
abbrev pub parts : List ℕ → List (List ℕ)
parts path = slice_split (λ b. b == 47) path

-- a part after a slash; an empty one and `.` lead nowhere
abbrev pub step : List ℕ → List ℕ
step part = if length part == 0 || bytes_eq part (codes ".") then [] else codes "/" ++ part

-- all steps, with a slash in front where the path has one: the usual spelling
abbrev pub steps : List ℕ → List ℕ
steps path = flat_map step (parts path)

unfoldable pub usual : List ℕ → List ℕ
usual path = if starts_with nat_eq path (codes "/") then steps path else drop 1 (steps path)

-- there is a record, and it can be read
abbrev pub is_record : Result (Option CommandRecord) EngineError → Bool
is_record (Ok (Some file)) = true
is_record _ = false

-- the usual spelling of a target, where that is another one and a record stands under it
unfoldable pub recorded_as : Files → List ℕ → Option (List ℕ)
recorded_as files o = if bytes_eq (usual o) o then None else (if is_record (record_at files (usual o)) then Some (usual o) else None)

-- the answer doesn't know the object by this spelling
abbrev pub is_unknown_verdict : Verdict → Bool
is_unknown_verdict NoCommandFile = true
is_unknown_verdict _ = false

abbrev pub is_unknown : Result Explanation EngineError → Bool
is_unknown (Ok e) = is_unknown_verdict e.verdict
is_unknown (Err (BadCommandFile line)) = line == 1
is_unknown (Err _) = false

-- then it is reported under which one it is recorded
abbrev pub spelling_of : Files → List ℕ → Result Explanation EngineError → Option (List ℕ)
spelling_of files o answer = if is_unknown answer then recorded_as files o else None
