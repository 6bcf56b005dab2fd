-- Which histories there are, and the headers that may stand after them.
use Rattle.std.specs.Prelude.{◌≡◌, ◌⊎◌, ℕ, ◌+◌, ◌<◌, ◌≤◌, List, true, IsTrue}
use Rattle.ks_symbols.specs.Configuration.{IsConfiguration, Configuration}
use Rattle.ks_symbols.specs.Titles.{is_title}
use Rattle.ks_output.specs.Definitions.{definitions}
use Rattle.ks_output.specs.Header.{header_text}
use Rattle.ks_symbols.specs.Names.{is_in}
use Rattle.ks_compare.specs.Changes.{differs}
use Rattle.ks_output.specs.OldConfig.{Texts}
use Rattle.ks_engine.specs.History.{History, Begun, Synced, Broken, Recorded, before, done, WasSynced}

-- The stamp of each changed name was renewed.
abbrev pub AreAllRenewed : List (List ℕ) → Texts → Configuration → Type 0
AreAllRenewed renewed old new = (x : List ℕ) → differs old new x ≡ true → is_in renewed x ≡ true

-- A header defines each name in the same lines as the one that is written of this configuration.
abbrev pub Defines : List ℕ → List ℕ → Configuration → Type 0
Defines b title config = (x : List ℕ) → definitions x b ≡ definitions x (header_text title config)

-- The header is as that of the last completed synchronisation, or of one that was broken off after it with all stamps renewed.
abbrev pub MayBeHeader : History → List ℕ → Type 0
MayBeHeader (Begun texts generation stamps) b = ⊥
MayBeHeader (Synced title config past) b = Defines b title config
MayBeHeader (Broken title config renewed past) b = (AreAllRenewed renewed (before past) config × Defines b title config) ⊎ MayBeHeader past b
MayBeHeader (Recorded object command names header past) b = MayBeHeader past b

-- what a synchronisation writes is a title and a configuration
pub record IsLegalSync (t : List ℕ) (c : Configuration) : Type 0 where
  pub title : IsTrue (is_title t)
  pub config : IsConfiguration c

-- At first a synchronisation may have been broken off, so no stamp is above the next generation. One in the history renewed only names that
-- it changes. A record stands after a completed one, and its header is one of that time.
abbrev pub IsHistory : History → Type 0
IsHistory (Begun texts generation stamps) = (generation ≤ 18446744073709551615) × ((x : List ℕ) → stamps x ≤ generation + 1)
IsHistory (Synced title config past) = IsHistory past × IsLegalSync title config × (done past < 18446744073709551615)
IsHistory (Broken title config renewed past) = IsHistory past × IsLegalSync title config
    × ((x : List ℕ) → is_in renewed x ≡ true → differs (before past) config x ≡ true)
IsHistory (Recorded object command names header past) = IsHistory past × WasSynced past × MayBeHeader past header
