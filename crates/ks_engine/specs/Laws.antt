-- Laws of the definitions: which trees show a history without events, that a synchronisation has one plan, that a suspicion has a cause,
-- that a run by the files is one of each history that the first of them show, and that what is answered by the files is judged by it.
use Rattle.std.specs.Prelude.{◌≡◌, ◌⊎◌, ℕ, ◌+◌, ◌≤◌, List, Some, None, Result, Ok, true, IsTrue, ⊤}
use Rattle.std.specs.FinMap.{empty}
use Rattle.ks_engine.specs.Sources.{Source}
use Rattle.ks_symbols.specs.Names.{is_name, is_in}
use Rattle.ks_tree.specs.Files.{Files, content}
use Rattle.ks_tree.specs.Paths.{auto_path, command_path, stamp_path}
use Rattle.ks_tree.specs.Stamps.{HasNumber, MakesStamps}
use Rattle.ks_engine.specs.declared.error.EngineError.{EngineError}
use Rattle.ks_compare.specs.Changes.{differs}
use Rattle.ks_output.specs.OldConfig.{Texts}
use Rattle.ks_fixdep.specs.CommandFile.{CommandRecord}
use Rattle.ks_fixdep.specs.CommandReading.{reading}
use Rattle.ks_symbols.specs.declared.dialect.Dialect.{Dialect}
use Rattle.ks_engine.specs.declared.explaining.Explanation.{Explanation}
use Rattle.ks_engine.specs.declared.staleness.BuildState.{BuildState}
use Rattle.ks_engine.specs.declared.staleness.Verdict.{Verdict}
use Rattle.ks_engine.specs.declared.staleness.Verdict.TheVariants.{Fresh}
use Rattle.ks_engine.specs.Asked.{asked, IsAnswer, IsAnswerOn}
use Rattle.ks_engine.specs.History.{History, Begun, Synced, Broken, Recorded, LastRecord, before, done, last_record}
use Rattle.ks_engine.specs.Staleness.{suspect_since}
use Rattle.ks_engine.specs.Legal.{IsHistory}
use Rattle.ks_engine.specs.Shows.{Shows, IsFirstAuto}
use Rattle.ks_engine.specs.SyncPlan.{Plan, IsSyncPlan}
use Rattle.ks_engine.specs.Actions.{Call}
use Rattle.ks_engine.specs.FileRuns.{FileState, FileRun}
use Rattle.ks_engine.specs.BuildStates.{IsStateOn}
use Rattle.ks_engine.specs.Explained.{ExplainsRecorded, IsExplanationOn}
use Rattle.ks_engine.specs.Impact.{IsAnswerAfter, EvaluatesAfter}
use Rattle.ks_engine.specs.Evaluated.{EvaluatesBuild, EvaluatesRecorded}
use Rattle.ks_engine.specs.Follows.{at}
use Rattle.ks_engine.specs.Runs.{Run}

-- An empty tree shows a history that begins with no texts, ..
abbrev pub EmptyTreeShows : Type 0
EmptyTreeShows = Shows empty (Begun empty 0 (λ x. 0))

-- .. a tree of Kbuild one that begins with the texts of its auto.conf: its stamps are empty; ..
abbrev pub UsualTreeShows : Type 0
UsualTreeShows =
    (files : Files) (texts : Texts) → IsFirstAuto texts 0 (content files auto_path)
    → ((x : List ℕ) → IsTrue (is_name x) → HasNumber (content files (stamp_path x)) 0) → Shows files (Begun texts 0 (λ x. 0))

-- .. a tree that synchronisations of the untyped form left, completed or broken off anywhere, one that begins with the generation of its auto.conf.
abbrev pub UntypedTreeShows : Type 0
UntypedTreeShows =
    (files : Files) (texts : Texts) (generation : ℕ) (stamps : List ℕ → ℕ) → IsFirstAuto texts generation (content files auto_path)
    → ((x : List ℕ) → stamps x ≤ generation + 1) → ((x : List ℕ) → IsTrue (is_name x) → HasNumber (content files (stamp_path x)) (stamps x))
    → Shows files (Begun texts generation stamps)

-- no command file has a generation
abbrev pub AreNotNumbered : Files → Type 0
AreNotNumbered files = (o b : List ℕ) (file : CommandRecord) → content files (command_path o) ≡ Some b → reading b ≡ Ok file → file.generation ≡ None

-- the tree shows a history without events, and no object of it is called fresh
pub record IsBeginning (files : Files) (texts : Texts) (generation : ℕ) (stamps : List ℕ → ℕ) : Type 0 where
  pub shown : Shows files (Begun texts generation stamps)
  pub none_fresh : (o : List ℕ) → IsAnswer files (asked files o) (Ok Fresh) → ⊥

-- .. and so does a tree whose command files have no generation, as a repair of lost numbers leaves it: there no object is fresh.
abbrev pub NotNumberedTreeShows : Type 0
NotNumberedTreeShows =
    (files : Files) (texts : Texts) (generation : ℕ) (stamps : List ℕ → ℕ) → IsFirstAuto texts generation (content files auto_path)
    → AreNotNumbered files → ((x : List ℕ) → stamps x ≤ generation + 1)
    → ((x : List ℕ) → IsTrue (is_name x) → HasNumber (content files (stamp_path x)) (stamps x))
    → IsBeginning files texts generation stamps

-- The files and the two texts determine what a synchronisation comes to: it has a plan or is refused, and for one reason.
abbrev pub PlansAreOne : Type 0
PlansAreOne =
    (files : Files) (source : Source) (r s : Result Plan EngineError) → IsSyncPlan files source r → IsSyncPlan files source s
    → r ≡ s

-- A synchronisation, completed or broken off, that began when g or more were completed, and whose configuration differs at x from the last of these.
abbrev pub HasChangeAfter : ℕ → List ℕ → History → Type 0
HasChangeAfter g x (Begun texts generation stamps) = ⊥
HasChangeAfter g x (Synced title config past) = ((g ≤ done past) × (differs (before past) config x ≡ true)) ⊎ HasChangeAfter g x past
HasChangeAfter g x (Broken title config renewed past) = ((g ≤ done past) × (differs (before past) config x ≡ true)) ⊎ HasChangeAfter g x past
HasChangeAfter g x (Recorded object command names header past) = HasChangeAfter g x past

-- Where a name of an object is suspect, such a synchronisation began after the last one that was completed before its record.
abbrev pub SuspicionsHaveCauses : Type 0
SuspicionsHaveCauses =
    (h : History) (o x : List ℕ) (r : LastRecord) → IsHistory h → last_record h o ≡ Some r → suspect_since h o x ≡ true → HasChangeAfter (done r.past) x h

-- A run of an honest tree by its files is a run from each history that the first of these files show.
abbrev pub FileRunsGoOn : Type 0
FileRunsGoOn =
    (dialect : Dialect) (first : FileState) (calls : List Call) (last : FileState) (h : History) → Shows first.files h → FileRun dialect ⊤ first calls last
    → (next : History) × Run dialect (at first.files first.failures h) calls (at last.files last.failures next)

-- What is answered by the files is judged by each history that they show: a verdict, ..
abbrev pub VerdictsAreEvaluated : Type 0
VerdictsAreEvaluated = (files : Files) (o : List ℕ) (answer : Result Verdict EngineError) → IsAnswerOn files o answer → EvaluatesRecorded files o answer

-- .. an explanation, ..
abbrev pub ExplanationsAreEvaluated : Type 0
ExplanationsAreEvaluated =
    (files : Files) (o : List ℕ) (answer : Result Explanation EngineError) → IsExplanationOn files o answer → ExplainsRecorded files o answer

-- .. a verdict after a synchronisation, with that one as the last event, ..
abbrev pub ImpactsAreEvaluated : Type 0
ImpactsAreEvaluated =
    (files : Files) (source : Source) (o : List ℕ) (answer : Result Verdict EngineError) → IsAnswerAfter files source o answer
    → EvaluatesAfter files source o answer

-- .. and whether an object was built by a command.
abbrev pub BuildsAreEvaluated : Type 0
BuildsAreEvaluated =
    (files : Files) (o command : List ℕ) (answer : Result BuildState EngineError) → IsStateOn files o command answer → EvaluatesBuild files o command answer

-- To make the missing stamps of names says nothing: the files show each history then that they showed before.
abbrev pub MadeStampsShow : Type 0
MadeStampsShow =
    (old new : Files) (names : List (List ℕ)) (h : History) → ((x : List ℕ) → is_in names x ≡ true → IsTrue (is_name x)) → MakesStamps names old new
    → Shows old h → Shows new h
