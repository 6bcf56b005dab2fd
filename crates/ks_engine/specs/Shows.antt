-- When the files of a tree show a history.
use Rattle.std.specs.Prelude.{◌≡◌, ℕ, ◌+◌, ◌≤◌, List, Option, Some, None, Ok, IsTrue, length, if◌then◌else◌}
use Rattle.std.specs.FinMap.{empty}
use Rattle.ks_symbols.specs.Lines.{max_bytes}
use Rattle.ks_symbols.specs.Names.{is_name, is_in, header_path}
use Rattle.ks_output.specs.AutoText.{auto_text}
use Rattle.ks_output.specs.AutoConf.{auto_map, auto_generation, auto_refusal}
use Rattle.ks_compare.specs.Changes.{differs}
use Rattle.ks_fixdep.specs.CommandFile.{CommandRecord}
use Rattle.ks_fixdep.specs.CommandReading.{reading}
use Rattle.ks_tree.specs.Files.{Files, content}
use Rattle.ks_tree.specs.Paths.{auto_path, stamp_path, command_path}
use Rattle.ks_tree.specs.Stamps.{HasNumber}
use Rattle.ks_output.specs.OldConfig.{Texts}
use Rattle.ks_engine.specs.History.{History, Begun, Synced, Broken, Recorded, LastRecord, before, done, WasSynced, last_record}
use Rattle.ks_engine.specs.Legal.{IsHistory, MayBeHeader}
use Rattle.ks_fixdep.specs.Record.{config_names}

-- At first it is missing, or one of either form that can be read.
abbrev pub IsFirstAuto : Texts → ℕ → Option (List ℕ) → Type 0
IsFirstAuto texts generation None = (texts ≡ empty) × (generation ≡ 0)
IsFirstAuto texts generation (Some b) = (auto_refusal b ≡ None) × (auto_generation b ≡ generation) × (auto_map b ≡ texts)

-- auto.conf: then it is that of the last completed synchronisation, whose number is its generation
abbrev pub IsAuto : History → Option (List ℕ) → Type 0
IsAuto (Begun texts generation stamps) file = IsFirstAuto texts generation file
IsAuto (Synced title config past) file = (file ≡ Some (auto_text title config (done past + 1))) × (length (auto_text title config (done past + 1)) ≤ max_bytes)
IsAuto (Broken title config renewed past) file = IsAuto past file
IsAuto (Recorded object command names header past) file = IsAuto past file

-- the number of a name's stamp: the generation of the last synchronisation that touched it, completed or not, or the one at first
abbrev pub stamp : History → List ℕ → ℕ
stamp (Begun texts generation stamps) x = stamps x
stamp (Synced title config past) x = if differs (before past) config x then done past + 1 else stamp past x
stamp (Broken title config renewed past) x = if is_in renewed x then done past + 1 else stamp past x
stamp (Recorded object command names header past) x = stamp past x

-- a command file of an object that says what was recorded
pub record IsCommandFile (o : List ℕ) (r : LastRecord) (b : List ℕ) : Type 0 where
  pub small : length b ≤ max_bytes
  pub file : CommandRecord
  pub reads : reading b ≡ Ok file
  pub target : file.target ≡ o
  pub command : file.command ≡ r.command
  pub names : config_names file.deps ≡ r.names
  pub generation : file.generation ≡ Some (done r.past)

pub record Shows (files : Files) (h : History) : Type 0 where
  pub history : IsHistory h
  pub auto : IsAuto h (content files auto_path)
  pub header : WasSynced h → (b : List ℕ) × (content files header_path ≡ Some b) × MayBeHeader h b
  pub stamps : (x : List ℕ) → IsTrue (is_name x) → HasNumber (content files (stamp_path x)) (stamp h x)
  pub commands : (o : List ℕ) (r : LastRecord) → last_record h o ≡ Some r → (b : List ℕ) × (content files (command_path o) ≡ Some b) × IsCommandFile o r b
