-- What an auto.conf says of the last completed synchronisation.
use Rattle.std.specs.Prelude.{◌≡◌, ◌<◌, ◌≤◌, ◌+◌, ◌-◌, ◌++◌, length, take, drop, ℕ, List, Option, Some, None, Result, Ok, Err, nat_eq, if◌then◌else◌}
use Rattle.std.specs.FinMap as map
use Rattle.ks_output.specs.declared.auto_conf.AutoError.{AutoError}
use Rattle.ks_output.specs.AutoConf.{auto_map, auto_generation, auto_refusal}
use Rattle.ks_engine.specs.declared.error.EngineError.{EngineError}
use Rattle.ks_engine.specs.declared.error.EngineError.TheVariants.{NeverSynced}
use Rattle.ks_engine.specs.Refusals.{of_auto, and_then}
use Rattle.ks_output.specs.OldConfig.{Texts}

-- the texts and the generation of an auto.conf
pub record OldAuto : Type 0 where
  pub texts : Texts
  pub generation : ℕ

abbrev pub read_unless : Option AutoError → List ℕ → Result OldAuto EngineError
read_unless None b = Ok (record { texts = auto_map b; generation = auto_generation b })
read_unless (Some e) b = Err (of_auto e)

-- A missing auto.conf has no texts and generation 0.
unfoldable pub old_auto : Option (List ℕ) → Result OldAuto EngineError
old_auto None = Ok (record { texts = map.empty; generation = 0 })
old_auto (Some b) = read_unless (auto_refusal b) b

abbrev pub synced_at : OldAuto → Result ℕ EngineError
synced_at auto = if nat_eq auto.generation 0 then Err NeverSynced else Ok auto.generation

-- the generation of the last completed synchronisation
abbrev pub last_generation : Option (List ℕ) → Result ℕ EngineError
last_generation file = and_then (old_auto file) synced_at

-- What a read of a file behind the first bytes of a room leaves there, up to an end: these, and the next bytes of the file, which are
-- all that are left where the room isn't full.
abbrev pub IsReadBehind : Option (List ℕ) → ℕ → ℕ → List ℕ → List ℕ → Option ℕ → Type 0
IsReadBehind file offset kept old new None = file ≡ None
IsReadBehind file offset kept old new (Some end) = (b : List ℕ) × (file ≡ Some b) × (take end new ≡ take kept old ++ take (end - kept) (drop offset b))
    × (end < length new → length b ≤ offset + (end - kept))
