-- Histories of a tree: which synchronisations were completed or broken off, and which objects were recorded between them.
use Rattle.std.specs.Prelude.{ℕ, ◌+◌, List, Option, Some, None, ⊤, bytes_eq, if◌then◌else◌}
use Rattle.ks_symbols.specs.Configuration.{Configuration}
use Rattle.ks_output.specs.OldConfig.{Texts, texts_of}

-- What stood at first, the texts and the generation of auto.conf and the numbers of the stamps, and the events since, the newest outermost.
pub data History : Type 0 where
  Begun : (texts : Texts) (generation : ℕ) (stamps : List ℕ → ℕ) → History
  -- a synchronisation that replaced auto.conf
  Synced : (title : List ℕ) (config : Configuration) (past : History) → History
  -- one that was broken off before that, and had renewed the stamps of these names
  Broken : (title : List ℕ) (config : Configuration) (renewed : List (List ℕ)) (past : History) → History
  -- an object and the command that builds it, with the names found in its dependencies, and the header at that time
  Recorded : (object command : List ℕ) (names : List (List ℕ)) (header : List ℕ) (past : History) → History

-- the texts of the last completed synchronisation, or those at first
abbrev pub before : History → Texts
before (Begun texts generation stamps) = texts
before (Synced title config past) = texts_of config
before (Broken title config renewed past) = before past
before (Recorded object command names header past) = before past

-- the generation: the one at first, and how many synchronisations were completed since
abbrev pub done : History → ℕ
done (Begun texts generation stamps) = generation
done (Synced title config past) = done past + 1
done (Broken title config renewed past) = done past
done (Recorded object command names header past) = done past

-- a synchronisation was completed
abbrev pub WasSynced : History → Type 0
WasSynced (Begun texts generation stamps) = ⊥
WasSynced (Synced title config past) = ⊤
WasSynced (Broken title config renewed past) = WasSynced past
WasSynced (Recorded object command names header past) = WasSynced past

-- the last record of an object, and what was before it
pub record LastRecord : Type 0 where
  pub command : List ℕ
  pub names : List (List ℕ)
  pub header : List ℕ
  pub past : History

abbrev pub last_record : History → List ℕ → Option LastRecord
last_record (Begun texts generation stamps) o = None
last_record (Synced title config past) o = last_record past o
last_record (Broken title config renewed past) o = last_record past o
last_record (Recorded object command names header past) o =
    if bytes_eq object o then Some (record { command = command; names = names; header = header; past = past }) else last_record past o

-- no synchronisation was broken off
abbrev pub NoneBroken : History → Type 0
NoneBroken (Begun texts generation stamps) = Unit {0}
NoneBroken (Synced title config past) = NoneBroken past
NoneBroken (Broken title config renewed past) = ⊥
NoneBroken (Recorded object command names header past) = NoneBroken past
