-- A walk over objects: each is asked about and reported before the next one is.
use Rattle.std.specs.Prelude.{◌≡◌, ◌⊎◌, ◌≤◌, ◌++◌, Bool, ℕ, List, [], ◌∷◌, Option, None, Result, Ok, Err, IfErr, flat_map, map, take, if◌then◌else◌}
use Rattle.ks_fixdep.specs.FoundNames.{all_noted}
use Rattle.ks_tree.specs.Files.{HasRisen}
use Rattle.ks_engine.specs.declared.error.EngineError.{EngineError}
use Rattle.ks_engine.specs.declared.error.EngineError.TheVariants.{Device, OutOfMemory}
use Rattle.ks_engine.specs.FileRuns.{FileState}
use Rattle.ks_engine.specs.Refusals.{IsAborted}
use Rattle.ks_requests.specs.declared.refusal.Refusal.TheVariants.{Engine}
use Rattle.ks_requests.specs.declared.request.Targets.{Targets}
use Rattle.ks_requests.specs.declared.status.Outcome.{Outcome}
use Rattle.ks_requests.specs.Endings.{Ending}
use Rattle.ks_requests.specs.Inputs.{given_if_named}
use Rattle.ks_requests.specs.Statuses.{worst}
use Rattle.ks_requests.specs.Targets.{file_of, targets_at, with_file, args_of}

-- An answer blames the device only where the count of failures rose on the way to it, and the count never falls.
pub record IsCounted {A : Type 0} (before : ℕ) (answer : Result A EngineError) (after : ℕ) : Type 0 where
  pub later : before ≤ after
  pub cause : answer ≡ Err Device → HasRisen before after

-- ---- the steps

-- an object, its answer, the lines that tell it, and their status
pub record Part (A : Type 0) : Type 0 where
  pub object : List ℕ
  pub answer : Result A EngineError
  pub lines : List ℕ
  pub status : ℕ

-- what is asked of an object: by which answers, and in which lines, and what is aged for it
pub record Querying (A : Type 0) : Type 1 where
  pub reported : Part A → Type 0
  pub backdates : Part A → List (List ℕ) → List (List ℕ) → Type 0

-- An object is reported, from one standing to the next.
pub record IsStep {A : Type 0} (querying : Querying A) (first : FileState) (p : Part A) (next : FileState) : Type 0 where
  pub reported : querying.reported p
  pub counted : IsCounted first.failures p.answer next.failures
  pub backdated : querying.backdates p first.backdated next.backdated

-- Each begins where the one before it ended.
abbrev pub Walks : {A : Type 0} → Querying A → FileState → List (Part A) → FileState → Type 0
Walks querying first [] last = last ≡ first
Walks querying first (p ∷ ps) last = (next : FileState) × IsStep querying first p next × Walks querying next ps last

-- all of them, their text and the worst status
abbrev pub objects_of : {A : Type 0} → List (Part A) → List (List ℕ)
objects_of parts = map (λ p. p.object) parts

abbrev pub text_of : {A : Type 0} → List (Part A) → List ℕ
text_of parts = flat_map (λ p. p.lines) parts

abbrev pub statuses : {A : Type 0} → List (Part A) → List ℕ
statuses parts = map (λ p. p.status) parts

-- ---- the objects of a question

-- They are its arguments, and the lines of a text where a file is named, which on an honest tree it holds. The walk begins once they are read.
pub record AreAsked (honest : Type 0) (old : FileState) (targets : Targets) (objects : List (List ℕ)) (first : FileState) : Type 0 where
  pub from : Option (List ℕ)
  pub named : file_of targets ≡ None → from ≡ None
  pub there : honest → given_if_named old.files (file_of targets) ≡ Ok from
  pub all : objects ≡ with_file (args_of targets) from
  pub later : old.failures ≤ first.failures
  pub backdated : first.backdated ≡ old.backdated

-- each of them, or each once, however often it is given
abbrev pub each_of : Bool → List (List ℕ) → List (List ℕ)
each_of once objects = if once then all_noted [] objects else objects

-- All of them were reported, and it ended so; or memory was refused, and a beginning of them was.
abbrev pub ReportedAll : {A E : Type 0} → (List (Part A) → Outcome → Type 0) → List (List ℕ) → List (Part A) → Result Outcome E → Type 0
ReportedAll reports objects parts (Ok o) = (objects_of parts ≡ objects) × reports parts o
ReportedAll reports objects parts (Err e) = (n : ℕ) × (objects_of parts ≡ take n objects)

-- It is refused for such a reason, or memory or the device fails, and nothing is aged. Which reasons there are is said of honest trees.
abbrev pub StoppedBy : Type 0 → (EngineError → Type 0) → FileState → Ending → FileState → Type 0
StoppedBy honest reason old ended new = (e : EngineError) × (honest → IsAborted e ⊎ reason e) × (ended ≡ Err (Engine e)) × (new.backdated ≡ old.backdated)

-- It is refused where the file of its objects is, or they are walked over.
abbrev pub EndsWalk : {A : Type 0} → Querying A → Bool → (List (Part A) → Outcome → Type 0) → Type 0 → FileState → Targets → Ending → FileState → Type 0
EndsWalk {A} querying once reports honest old targets ended new =
    StoppedBy honest (λ e. targets_at old.files targets ≡ Err e) old ended new
    ⊎ ((objects : List (List ℕ)) × (first : FileState) × (parts : List (Part A)) × AreAsked honest old targets objects first
    × Walks querying first parts new × ReportedAll reports (each_of once objects) parts ended × IfErr ended (λ r. r ≡ Engine OutOfMemory))

-- ---- for the proof of the bodies

-- This object was reported, after the text before.
pub record ReportsOne {A : Type 0} (querying : Querying A) (first : FileState) (o before after : List ℕ) (code : ℕ) (last : FileState) : Type 0 where
  pub part : Part A
  pub of_object : part.object ≡ o
  pub step : IsStep querying first part last
  pub lines : after ≡ before ++ part.lines
  pub status_of : code ≡ part.status

-- These objects were, in this text, and the status is the worst.
pub record ReportsAll {A : Type 0} (querying : Querying A) (parts : List (Part A)) (first : FileState) (objects : List (List ℕ)) (text : List ℕ) (code : ℕ)
    (last : FileState) : Type 0 where
  pub of_objects : objects_of parts ≡ objects
  pub walks : Walks querying first parts last
  pub lines : text ≡ text_of parts
  pub worst_of : code ≡ worst (statuses parts)
