-- Putting back what the last completed synchronisation left, where another tool was at work: what is looked at, and what is left.
use Rattle.std.specs.Prelude.{◌≡◌, ◌≢◌, ◌⊎◌, ◌+◌, ◌<◌, ◌≤◌, ◌++◌, ℕ, IsPermutation, List, Vec, Option, Some, None, Result, Ok, Err, option_map, max, length, IsTrue, true, false, if◌then◌else◌}
use Rattle.std.specs.List.{All}
use Rattle.std.specs.declared.alloc.Global.{Global}
use Rattle.ks_symbols.specs.Names.{is_in, is_name, is_target, header_path}
use Rattle.ks_fixdep.specs.CommandFile.{CommandRecord, command_text}
use Rattle.ks_output.specs.AutoText.{generation_line}
use Rattle.ks_tree.specs.Files.{Files, IsTooLarge, content}
use Rattle.ks_tree.specs.Paths.{auto_path, auto_temporary, command_path, command_temporary, header_temporary, stamp_path, stamp_temporary}
use Rattle.ks_tree.specs.Stamps.{HasNumber, IsNoStamp, left_over, stamp_text}
use Rattle.ks_engine.specs.Asked.{command_file}
use Rattle.ks_engine.specs.LastSync.{old_auto}
use Rattle.ks_engine.specs.Refusals.{IsAborted, and_then}
use Rattle.ks_engine.specs.Synchronised.{AreCleared}
use Rattle.ks_engine.specs.declared.error.EngineError.{EngineError}
use Rattle.ks_engine.specs.declared.error.EngineError.TheVariants.{BadPath, GenerationFull, TooLarge}
use Rattle.ks_engine.specs.declared.repairing.Kept.{Kept}
use Rattle.ks_engine.specs.declared.repairing.Repaired.{Repaired}
use Rattle.ks_engine.specs.declared.repairing.Repaired.TheVariants.{PutBack, BegunAgain, Nothing}

-- ---- which numbers there are

-- the generation of an auto.conf; a missing one has 0
abbrev pub generation_in : Option (List ℕ) → Result ℕ EngineError
generation_in file = and_then (old_auto file) (λ auto. Ok auto.generation)

abbrev pub kept_auto : Option Kept → Option (List ℕ)
kept_auto kept = option_map (λ k. k.auto.items) kept

-- The stamp says nothing: it is missing, empty or faulty, or its number is 0.
abbrev pub IsLostStamp : Option (List ℕ) → Type 0
IsLostStamp stamp = HasNumber stamp 0 ⊎ IsNoStamp stamp

-- It has one of at most so much.
abbrev pub HasNumberUpTo : ℕ → Option (List ℕ) → Type 0
HasNumberUpTo highest stamp = (n : ℕ) × HasNumber stamp n × (0 < n) × (n ≤ highest)

-- a number above 0, or that there is none
abbrev pub IsStampNumber : Option (List ℕ) → Option ℕ → Type 0
IsStampNumber stamp None = IsLostStamp stamp
IsStampNumber stamp (Some n) = HasNumber stamp n × (0 < n)

-- Of these names those that lost their stamp, as often as they are named, and the highest number of the others.
pub record AreStamps (files : Files) (names lost : List (List ℕ)) (highest : ℕ) : Type 0 where
  pub legal : All (λ x. IsTrue (is_name x)) names
  pub are_lost : All (λ x. IsLostStamp (content files (stamp_path x))) lost
  pub others : List (List ℕ)
  pub numbered : All (λ x. HasNumberUpTo highest (content files (stamp_path x))) others
  pub all : IsPermutation names (lost ++ others)
  pub one : (highest ≡ 0) ⊎ ((x : List ℕ) × (is_in names x ≡ true) × HasNumber (content files (stamp_path x)) highest)

-- A command file says that its object was recorded at this generation.
abbrev pub IsRecordedAt : List ℕ → Option (List ℕ) → ℕ → Type 0
IsRecordedAt o found g = (file : CommandRecord) × (command_file o found ≡ Ok (Some file)) × (file.generation ≡ Some g)

-- Its generation, or 0 where it is missing or faulty, or has none.
pub record IsRecordNumber (o : List ℕ) (found : Option (List ℕ)) (n : ℕ) : Type 0 where
  pub each : (g : ℕ) → IsRecordedAt o found g → g ≤ n
  pub one : (n ≡ 0) ⊎ IsRecordedAt o found n

-- The highest generation of these objects' records.
pub record IsHighestRecord (files : Files) (targets : List (List ℕ)) (highest : ℕ) : Type 0 where
  pub each : All (λ o. (g : ℕ) → IsRecordedAt o (content files (command_path o)) g → g ≤ highest) targets
  pub one : (highest ≡ 0) ⊎ ((o : List ℕ) × (is_in targets o ≡ true) × IsRecordedAt o (content files (command_path o)) highest)

-- The generation of what was kept, the highest of the records and of the stamps, and the names that lost their stamp.
pub record IsSurvey (files : Files) (kept : Option Kept) (names targets : List (List ℕ)) (generation records stamps : ℕ) (lost : List (List ℕ)) : Type 0 where
  pub is_kept : generation_in (kept_auto kept) ≡ Ok generation
  pub are_records : IsHighestRecord files targets records
  pub are_stamps : AreStamps files names lost stamps

-- What was kept is of the last synchronisation that left numbers here, but for one that was broken off among its stamps.
pub record IsLast (generation records stamps : ℕ) : Type 0 where
  pub numbered : 0 < generation
  pub above_records : records ≤ generation
  pub above_stamps : stamps ≤ generation + 1

-- ---- what a repair leaves

-- Stamps of some of the lost names are renewed. Where all are, the header may be the kept one, and then auto.conf may be. All else but the
-- temporary files is as before.
pub record RepairLeaves (old new : Files) (k : Kept) (number : ℕ) (lost renewed : List (List ℕ)) : Type 0 where
  pub within : (x : List ℕ) → is_in renewed x ≡ true → is_in lost x ≡ true
  pub stamps : (x : List ℕ) → IsTrue (is_name x) → content new (stamp_path x)
      ≡ (if is_in renewed x then Some (stamp_text number) else content old (stamp_path x))
  pub header : (content new header_path ≡ content old header_path) ⊎ ((renewed ≡ lost) × (content new header_path ≡ Some k.header.items))
  pub auto : (content new auto_path ≡ content old auto_path)
      ⊎ ((renewed ≡ lost) × (content new header_path ≡ Some k.header.items) × (content new auto_path ≡ Some k.auto.items))
  pub others : (q : List ℕ) → ((x : List ℕ) → is_in lost x ≡ true → q ≢ stamp_path x) → q ≢ header_path → q ≢ auto_path
      → q ≢ stamp_temporary → q ≢ header_temporary → q ≢ auto_temporary → content new q ≡ content old q

-- All of it is done.
pub record IsPutBack (old new : Files) (k : Kept) (number : ℕ) (lost : List (List ℕ)) : Type 0 where
  pub leaves : RepairLeaves old new k number lost lost
  pub header : content new header_path ≡ Some k.header.items
  pub auto : content new auto_path ≡ Some k.auto.items
  pub cleared : AreCleared old new lost

-- It was put back, with the number that the next synchronisation gets too.
pub record PutsBack (old new : Files) (kept : Option Kept) (names targets : List (List ℕ)) (generation count : ℕ) : Type 0 where
  pub records : ℕ
  pub stamps : ℕ
  pub lost : List (List ℕ)
  pub survey : IsSurvey old kept names targets generation records stamps lost
  pub last : IsLast generation records stamps
  pub headroom : generation < 18446744073709551615
  pub counted : count ≡ length lost
  pub k : Kept
  pub given : kept ≡ Some k
  pub done : IsPutBack old new k (generation + 1) lost

-- ---- what a beginning leaves

-- A command file of an object says a number.
abbrev pub SaysNumber : List ℕ → Option (List ℕ) → Type 0
SaysNumber o found = (g : ℕ) × (0 < g) × IsRecordedAt o found g

abbrev pub IsNumbered : Files → List ℕ → Type 0
IsNumbered files o = SaysNumber o (content files (command_path o))

-- It said a number, and says all else that it said.
pub record LosesNumber (o : List ℕ) (found : Option (List ℕ)) (plain : List ℕ) : Type 0 where
  pub file : CommandRecord
  pub was : command_file o found ≡ Ok (Some file)
  pub number : ℕ
  pub some : 0 < number
  pub numbered : file.generation ≡ Some number
  pub text : plain ≡ command_text (record file { generation = None })

abbrev pub IsWithoutNumber : List ℕ → List ℕ → Option (Vec ℕ Global) → Type 0
IsWithoutNumber o text None = SaysNumber o (Some text) → ⊥
IsWithoutNumber o text (Some plain) = LosesNumber o (Some text) plain.items

-- The command file of an object lost its number.
abbrev pub IsForgotten : Files → Files → List ℕ → Type 0
IsForgotten old new o = (plain : List ℕ) × (content new (command_path o) ≡ Some plain) × LosesNumber o (content old (command_path o)) plain

-- Each file is as before, or it is the command file of one of these objects and lost its number, or the temporary file of one.
abbrev pub ForgetsSome : List (List ℕ) → Files → Files → Type 0
ForgetsSome targets old new = (q : List ℕ) → (content new q ≡ content old q)
    ⊎ ((o : List ℕ) × (is_in targets o ≡ true) × (((q ≡ command_path o) × IsForgotten old new o) ⊎ (q ≡ command_temporary o)))

abbrev pub IsOldOrGone : Files → Files → List ℕ → Type 0
IsOldOrGone old new q = (content new q ≡ content old q) ⊎ (content new q ≡ None)

-- No record of these objects has a number any more.
pub record Forgets (targets : List (List ℕ)) (old new : Files) : Type 0 where
  pub none : All (λ o. IsNumbered new o → ⊥) targets
  pub paths : ForgetsSome targets old new
  pub cleared : (o : List ℕ) → IsOldOrGone old new (command_temporary o)

-- Stamps of some of the names are renewed. Where all are, records may be forgotten, and where all of these are, auto.conf may be that of the number.
-- All else but the temporary files is as before.
pub record BeginningLeaves (old new : Files) (number : ℕ) (names targets renewed : List (List ℕ)) : Type 0 where
  pub within : (x : List ℕ) → is_in renewed x ≡ true → is_in names x ≡ true
  pub stamps : (x : List ℕ) → IsTrue (is_name x) → content new (stamp_path x)
      ≡ (if is_in renewed x then Some (stamp_text number) else content old (stamp_path x))
  pub records : (o : List ℕ) → (content new (command_path o) ≡ content old (command_path o))
      ⊎ ((renewed ≡ names) × (is_in targets o ≡ true) × IsForgotten old new o)
  pub auto : (content new auto_path ≡ content old auto_path)
      ⊎ ((renewed ≡ names) × All (λ o. IsNumbered new o → ⊥) targets × (content new auto_path ≡ Some (generation_line number)))
  pub others : (q : List ℕ) → ((x : List ℕ) → is_in names x ≡ true → q ≢ stamp_path x)
      → ((o : List ℕ) → is_in targets o ≡ true → (q ≢ command_path o) × (q ≢ command_temporary o)) → q ≢ auto_path
      → q ≢ stamp_temporary → q ≢ auto_temporary → content new q ≡ content old q

-- All of it is done, and no temporary file of it is left.
pub record IsBeginning (old new : Files) (number : ℕ) (names targets : List (List ℕ)) : Type 0 where
  pub leaves : BeginningLeaves old new number names targets names
  pub none : All (λ o. IsNumbered new o → ⊥) targets
  pub auto : content new auto_path ≡ Some (generation_line number)
  pub stamps_cleared : content new stamp_temporary ≡ left_over names (content old stamp_temporary)
  pub commands_cleared : (o : List ℕ) → IsOldOrGone old new (command_temporary o)
  pub auto_cleared : content new auto_temporary ≡ None

-- By the highest of all other numbers, and that of the stamps: without one nothing is written. A stamp of 1 is left of a first synchronisation
-- that was interrupted.
abbrev pub IsBegun : Files → Files → ℕ → ℕ → List (List ℕ) → List (List ℕ) → Repaired → Type 0
IsBegun old new numbered stamps names targets (BegunAgain generation) = ((numbered ≡ 0) × (stamps ≤ 1) → ⊥)
    × (generation ≡ max numbered stamps + 1) × (generation ≤ 18446744073709551615) × IsBeginning old new generation names targets
IsBegun old new numbered stamps names targets Nothing = (numbered ≡ 0) × (stamps ≤ 1) × (new ≡ old)
IsBegun old new numbered stamps names targets answer = ⊥

-- What was kept is not of the last synchronisation. `numbered` is the highest of its generation, of the records, and of the auto.conf that is there.
pub record AreLost (files : Files) (kept : Option Kept) (names targets : List (List ℕ)) (numbered stamps : ℕ) : Type 0 where
  pub generation : ℕ
  pub records : ℕ
  pub lost : List (List ℕ)
  pub survey : IsSurvey files kept names targets generation records stamps lost
  pub not_last : IsLast generation records stamps → ⊥
  pub present : ℕ
  pub auto : generation_in (content files auto_path) ≡ Ok present
  pub highest : numbered ≡ max (max generation records) present

-- The numbers begin again, or there are none.
abbrev pub Begins : Files → Files → Option Kept → List (List ℕ) → List (List ℕ) → Repaired → Type 0
Begins old new kept names targets answer = (numbered : ℕ) × (stamps : ℕ) × AreLost old kept names targets numbered stamps × IsBegun old new numbered stamps names targets answer

abbrev pub IsRepaired : Files → Files → Option Kept → List (List ℕ) → List (List ℕ) → Repaired → Type 0
IsRepaired old new kept names targets (PutBack generation count) = PutsBack old new kept names targets generation count
IsRepaired old new kept names targets answer = Begins old new kept names targets answer

-- ---- why it is refused

abbrev pub HasBadTarget : List (List ℕ) → Type 0
HasBadTarget targets = (o : List ℕ) × (is_in targets o ≡ true) × (is_target o ≡ false)

abbrev pub HasLargeStamp : Files → List (List ℕ) → Type 0
HasLargeStamp files names = (x : List ℕ) × (is_in names x ≡ true) × IsTooLarge (content files (stamp_path x))

-- It is known whether what was kept is of the last synchronisation.
pub record IsKnown (files : Files) (kept : Option Kept) (names targets : List (List ℕ)) (generation : ℕ) (decides : Type 0 → Type 0) : Type 0 where
  pub records : ℕ
  pub stamps : ℕ
  pub lost : List (List ℕ)
  pub survey : IsSurvey files kept names targets generation records stamps lost
  pub decided : decides (IsLast generation records stamps)

-- What was kept, a target, a stamp, or the auto.conf that is there refuses it, or no generation is left.
abbrev pub IsRepairRefusal : Files → Option Kept → List (List ℕ) → List (List ℕ) → EngineError → Type 0
IsRepairRefusal files kept names targets e =
    (generation_in (kept_auto kept) ≡ Err e)
    ⊎ (HasBadTarget targets × (e ≡ BadPath 0))
    ⊎ (HasLargeStamp files names × (e ≡ TooLarge))
    ⊎ (IsKnown files kept names targets 18446744073709551615 (λ last. last) × (e ≡ GenerationFull))
    ⊎ (((generation : ℕ) × IsKnown files kept names targets generation (λ last. last → ⊥)) × (generation_in (content files auto_path) ≡ Err e))

-- It reached its first write and was given up.
pub record IsRepairBrokenOff (old new : Files) (kept : Option Kept) (names targets : List (List ℕ)) : Type 0 where
  pub generation : ℕ
  pub records : ℕ
  pub stamps : ℕ
  pub lost : List (List ℕ)
  pub survey : IsSurvey old kept names targets generation records stamps lost
  pub last : IsLast generation records stamps
  pub k : Kept
  pub given : kept ≡ Some k
  pub renewed : List (List ℕ)
  pub leaves : RepairLeaves old new k (generation + 1) lost renewed

-- So was a beginning, which there is only where there are numbers. After it each is below 2 ^ 64.
abbrev pub IsBeginningRefused : Files → Files → ℕ → ℕ → List (List ℕ) → List (List ℕ) → EngineError → Type 0
IsBeginningRefused old new numbered stamps names targets e = ((numbered ≡ 0) × (stamps ≤ 1) → ⊥)
    × (((new ≡ old) × (max numbered stamps ≡ 18446744073709551615) × (e ≡ GenerationFull))
    ⊎ (IsAborted e × (renewed : List (List ℕ)) × BeginningLeaves old new (max numbered stamps + 1) names targets renewed))

abbrev pub IsRepairRefused : Files → Files → Option Kept → List (List ℕ) → List (List ℕ) → EngineError → Type 0
IsRepairRefused old new kept names targets e =
    ((new ≡ old) × IsRepairRefusal old kept names targets e)
    ⊎ (IsAborted e × ((new ≡ old) ⊎ IsRepairBrokenOff old new kept names targets))
    ⊎ ((numbered : ℕ) × (stamps : ℕ) × AreLost old kept names targets numbered stamps × IsBeginningRefused old new numbered stamps names targets e)
