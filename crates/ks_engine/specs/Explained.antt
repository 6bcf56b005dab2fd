-- Why an object is stale, by histories: all of its names that were touched since its record, each with the file after which it stands.
use Rattle.std.specs.Prelude.{◌≡◌, ◌⊎◌, ℕ, List, [], ◌∷◌, ◌++◌, length, Option, Some, None, Result, Ok, Bool, true, false, IfOk, IsTrue, map, filter, if◌then◌else◌}
use Rattle.std.specs.List.{All, list_all}
use Rattle.ks_symbols.specs.Names.{is_in}
use Rattle.ks_fixdep.specs.declared.dependency_file.Role.{Role}
use Rattle.ks_fixdep.specs.declared.dependency_file.Role.TheVariants as role
use Rattle.ks_fixdep.specs.Record.{record_of, source_of}
use Rattle.ks_tree.specs.Files.{Files}
use Rattle.ks_engine.specs.declared.error.EngineError.{EngineError}
use Rattle.ks_engine.specs.declared.explaining.Explanation.{Explanation}
use Rattle.ks_engine.specs.declared.query.Limit.TheVariants.{All as Every}
use Rattle.ks_engine.specs.History.{History, LastRecord, last_record}
use Rattle.ks_engine.specs.Staleness.{found, suspect_since}
use Rattle.ks_engine.specs.Shows.{Shows, stamp}
use Rattle.ks_engine.specs.Causes.{names_placed}
use Rattle.ks_engine.specs.Asked.{asked, reported, IsAnswer, IsExplained}
use Rattle.ks_engine.specs.Evaluated.{IsEvaluated}
use Rattle.ks_engine.specs.Refusals.{IsAbortedAnswer}

-- of a recorded object
pub record IsExplanationEvaluated (files : Files) (h : History) (o : List ℕ) (r : LastRecord) (answer : Result Explanation EngineError) : Type 0 where
  -- The verdict is as any other one.
  pub evaluated : IsEvaluated files h o r (reported answer)
  -- The causes are the names that are suspect, in the order in which they were found, ..
  pub suspects : IfOk answer (λ e. map (λ c. c.name) e.causes.items ≡ filter (suspect_since h o) (found h o))
  -- .. each with the number of the last synchronisation that touched it.
  pub numbers : IfOk answer (λ e. All (λ c. c.generation ≡ stamp h c.name) e.causes.items)

-- of each object that is recorded in a history that the files show
abbrev pub ExplainsRecorded : Files → List ℕ → Result Explanation EngineError → Type 0
ExplainsRecorded files o answer = (h : History) (r : LastRecord) → Shows files h → last_record h o ≡ Some r → IsExplanationEvaluated files h o r answer

-- what a question is answered with all of its causes
pub record IsExplanationOn (files : Files) (o : List ℕ) (answer : Result Explanation EngineError) : Type 0 where
  pub by_files : IsAbortedAnswer answer ⊎ IsExplained Every files o answer
  -- The verdict is one that is answered to a question for the first of them.
  pub verdict : IfOk answer (λ e. IsAnswer files (asked files o) (Ok e.verdict))

-- ---- a law: places are first

-- the first of these paths in whose file the name was found
abbrev pub first_with : List ℕ → List (List ℕ) → List (List (List ℕ)) → Option (List ℕ)
first_with x [] lists = None
first_with x (path ∷ paths) [] = None
first_with x (path ∷ paths) (names ∷ lists) = if is_in names x then Some path else first_with x paths lists

-- for each prerequisite the path that is listed last, its own included; and for each list of names past them the last of all
abbrev pub listed_last : List ℕ → List (List ℕ × Role) → List (List (List ℕ)) → List (List ℕ)
listed_last place ps [] = []
listed_last place [] (names ∷ lists) = place ∷ listed_last place [] lists
listed_last place ((path, role.Listed) ∷ ps) (names ∷ lists) = path ∷ listed_last path ps lists
listed_last place ((path, role.Source) ∷ ps) (names ∷ lists) = place ∷ listed_last place ps lists
listed_last place ((path, role.Scanned) ∷ ps) (names ∷ lists) = place ∷ listed_last place ps lists

-- whether it has a line of its own
abbrev pub is_listed : List ℕ × Role → Bool
is_listed (path, role.Listed) = true
is_listed (path, role.Source) = false
is_listed (path, role.Scanned) = false

-- the last of them
abbrev pub last_path : List ℕ × Role → List (List ℕ × Role) → List ℕ
last_path p [] = p.0
last_path p (q ∷ ps) = last_path q ps

-- In the command file of a record each name stands after the first prerequisite in which it was found. A scanned one has no line of its own: its
-- names stand after the last that has one. So do those that are found past all prerequisites, in the words of the command.
abbrev pub PlacesAreFirst : Type 0
PlacesAreFirst =
    (target command : List ℕ) (ps : List (List ℕ × Role)) (names : List (List (List ℕ)))
    → All (λ p. first_with p.0 (listed_last (source_of ps) ps names) names ≡ Some p.1) (names_placed (record_of target command ps names))

-- Where all prerequisites after the source are listed, as those of a single rule are, it is that prerequisite itself. The names past them, in the
-- words of the command, stand after the last one.
abbrev pub PlacesAreTheirs : Type 0
PlacesAreTheirs =
    (target command : List ℕ) (source : List ℕ × Role) (ps : List (List ℕ × Role)) (names past : List (List (List ℕ))) → IsTrue (list_all is_listed ps)
    → length names ≡ length (source ∷ ps)
    → All (λ p. first_with p.0 (map (λ q. q.0) (source ∷ ps) ++ map (λ _. last_path source ps) past) (names ++ past) ≡ Some p.1)
    (names_placed (record_of target command (source ∷ ps) (names ++ past)))
