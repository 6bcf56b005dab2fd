-- The numbers that files hold: auto.conf, command files and stamps.
use Rattle.std.specs.Prelude.{◌≡◌, ◌&&◌, ℕ, Bool, false, true, List, Option, Some, None, Result, Ok, Err, bytes_eq, codes, if◌then◌else◌, is_none, length, nat_eq, nat_lt}
use Rattle.std.specs.Bool.{MatchBool}
use Rattle.std.specs.List.{ends_with, starts_with}
use Rattle.ks_symbols.specs.Lines.{max_bytes}
use Rattle.ks_symbols.specs.Names.{is_name}
use Rattle.ks_output.specs.AutoConf.{auto_generation, auto_refusal}
use Rattle.ks_fixdep.specs.CommandFile.{CommandRecord}
use Rattle.ks_fixdep.specs.CommandReading.{reading}
use Rattle.ks_tree.specs.Files.{Files, content}
use Rattle.ks_tree.specs.Paths.{stamp_path}
use Rattle.ks_tree.specs.Stamps.{HasNumber, IsStampRefusal}
use Rattle.ks_tree.specs.declared.fault.TreeError.{TreeError}
use Rattle.ks_engine.specs.declared.error.EngineError.{EngineError}
use Rattle.ks_engine.specs.declared.error.EngineError.TheVariants.{BadCommandFile, TooLarge}
use Rattle.ks_engine.specs.LastSync.{old_auto}
use Rattle.ks_engine.specs.Refusals.{Answers, and_then, of_stamp}
use Rattle.ks_session.specs.Directories.{below}
use Rattle.ks_session.specs.Lock.{text_of}
use Rattle.ks_session.specs.declared.lock.FoundFile.{FoundFile}

-- whether an auto.conf has a generation
abbrev pub has_generation : Option (List ℕ) → Result Bool EngineError
has_generation file = and_then (old_auto file) (λ old. Ok (nat_lt 0 old.generation))

-- there is none, or one that can be read, without a generation
abbrev pub has_no_generation : Option (List ℕ) → Bool
has_no_generation None = true
has_no_generation (Some b) = is_none (auto_refusal b) && nat_eq (auto_generation b) 0

-- Numbers begin where that is known.
abbrev pub begins_anew : Option FoundFile → Bool
begins_anew None = false
begins_anew (Some auto) = has_no_generation (text_of auto)

-- a number that was given by a synchronisation
abbrev pub is_given : Option ℕ → Bool
is_given None = false
is_given (Some n) = nat_lt 0 n

abbrev pub record_number : Result CommandRecord ℕ → Result Bool EngineError
record_number (Ok file) = Ok (is_given file.generation)
record_number (Err line) = Err (BadCommandFile line)

-- a command file with such a number
abbrev pub has_record_number : Option (List ℕ) → Result Bool EngineError
has_record_number None = Ok false
has_record_number (Some b) = if nat_lt max_bytes (length b) then Err TooLarge else record_number (reading b)

-- a stamp above what a first synchronisation leaves
abbrev pub IsHighStamp : Option (List ℕ) → Bool → Type 0
IsHighStamp file high = (n : ℕ) × HasNumber file n × (high ≡ nat_lt 1 n)

-- why a stamp was not read
abbrev pub IsStampFault : List ℕ → Option (List ℕ) → EngineError → Type 0
IsStampFault x file e = (why : TreeError) × (e ≡ of_stamp why) × IsStampRefusal x file why

abbrev pub AnswersStamp : List ℕ → Option (List ℕ) → Result Bool EngineError → Type 0
AnswersStamp x file (Ok high) = IsHighStamp file high
AnswersStamp x file (Err e) = IsStampFault x file e

-- ---- a file of a directory, by its name

-- . and .cmd, with something between them
abbrev pub is_command_name : List ℕ → Bool
is_command_name name = nat_lt 5 (length name) && starts_with nat_eq name (codes ".") && ends_with nat_eq name (codes ".cmd")

abbrev pub is_stamp : List ℕ → List ℕ → Bool
is_stamp directory name = bytes_eq directory (codes "include/config") && is_name name

-- A command file holds the number of its record, a stamp its own, and no other file one.
abbrev pub HoldsNumber : Files → List ℕ → List ℕ → Result Bool EngineError → Type 0
HoldsNumber files directory name answer = MatchBool (is_command_name name)
    (Answers (has_record_number (content files (below directory name))) (λ has. has) answer)
    (MatchBool (is_stamp directory name) (AnswersStamp name (content files (stamp_path name)) answer) (answer ≡ Ok false))
