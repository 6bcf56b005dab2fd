-- Records of other objects don't matter: what is said of an object goes by the synchronisations and by its own records alone.
use Rattle.std.specs.Prelude.{◌≡◌, List, ℕ, if◌then◌else◌, bytes_eq}
use Rattle.ks_engine.specs.History.{History, Begun, Synced, Broken, Recorded}
use Rattle.ks_engine.specs.Staleness.{found, first_changed, first_suspect}
use Rattle.ks_engine.specs.Legal.{IsHistory}

-- a history without the records of any other object
abbrev pub own_history : History → List ℕ → History
own_history (Begun texts generation stamps) o = Begun texts generation stamps
own_history (Synced title config past) o = Synced title config (own_history past o)
own_history (Broken title config renewed past) o = Broken title config renewed (own_history past o)
own_history (Recorded object command names header past) o =
    if bytes_eq object o then Recorded object command names header (own_history past o) else own_history past o

-- It is a history as well, with the same found names of the object and the same first one for which it is stale.
pub record IsOwnHistory (h : History) (o : List ℕ) (own : History) : Type 0 where
  pub legal : IsHistory h → IsHistory own
  pub found : found own o ≡ found h o
  pub changed : first_changed own o ≡ first_changed h o
  pub suspect : first_suspect own o ≡ first_suspect h o

abbrev pub OtherRecordsDoNotMatter : Type 0
OtherRecordsDoNotMatter = (h : History) (o : List ℕ) → IsOwnHistory h o (own_history h o)
