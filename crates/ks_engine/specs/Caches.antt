-- What a command has read of a tree, and keeps: each thing kept is what the files say.
use Rattle.std.specs.Prelude.{◌≡◌, ◌≢◌, ◌<◌, ◌++◌, ℕ, Bool, nat_lt, List, [], ◌∷◌, Option, Some, Ok, IsTrue, string_bytes, vec_items, get_or, length, map, bytes_eq, if◌then◌else◌}
use Rattle.std.specs.List.{All, list_all}
use Rattle.std.specs.Map.{lookup}
use Rattle.ks_symbols.specs.Names.{is_name}
use Rattle.ks_tree.specs.Files.{Files, content}
use Rattle.ks_tree.specs.Paths.{auto_path, stamp_path}
use Rattle.ks_tree.specs.Stamps.{HasNumber}
use Rattle.ks_engine.specs.declared.caches.Cache.{Cache}
use Rattle.ks_fixdep.specs.SourceScan.{found_of}
use Rattle.ks_fixdep.specs.declared.dialect.ScanRules.{ScanRules}
use Rattle.ks_engine.specs.LastSync.{last_generation}
use Rattle.ks_engine.specs.Recording.{scanned}

-- what a map has by the bytes of its keys, in order; the value of a text; and the pairs once one more is put
abbrev pub pairs_of : {K V : Type 0} → (K → List ℕ) → List (K × V) → List (List ℕ × V)
pairs_of bytes entries = map (λ e. (bytes e.0, e.1)) entries

abbrev pub value_of : {V : Type 0} → List ℕ → List (List ℕ × V) → Option V
value_of text pairs = lookup (bytes_eq text) pairs

abbrev pub with_pair : {V : Type 0} → List ℕ → V → List (List ℕ × V) → List (List ℕ × V)
with_pair text v [] = (text, v) ∷ []
with_pair text v (p ∷ ps) = if bytes_eq text p.0 then (p.0, v) ∷ ps else p ∷ with_pair text v ps

-- the stamp of a name holds this number
abbrev pub IsStamp : Files → List ℕ → ℕ → Type 0
IsStamp files x n = IsTrue (is_name x) × HasNumber (content files (stamp_path x)) n

abbrev pub AreStamps : Files → List (List ℕ × ℕ) → Type 0
AreStamps files kept = All (λ s. IsStamp files s.0 s.1) kept

-- The source at a place has the names of the file at a path, by such rules.
abbrev pub IsCached : ScanRules → Files → List (List (List ℕ)) → List ℕ → ℕ → Type 0
IsCached r files found path place = (place < length found) × (scanned r path (content files path) ≡ Ok (get_or found place []))

abbrev pub AreScanned : ScanRules → Files → List (List (List ℕ)) → List (List ℕ × ℕ) → Type 0
AreScanned r files found kept = All (λ s. IsCached r files found s.0 s.1) kept

-- each of these places is one of a source
abbrev pub are_placed : List (List (List ℕ)) → List ℕ → Bool
are_placed found places = list_all (λ i. nat_lt i (length found)) places

-- new begins with old
abbrev pub Grows : List (List (List ℕ)) → List (List (List ℕ)) → Type 0
Grows old new = (more : List (List (List ℕ))) × (new ≡ old ++ more)

-- Each thing kept is what the files say.
pub record IsCacheOf (files : Files) (cache : Cache) : Type 0 where
  pub generation : (g : ℕ) → cache.generation ≡ Some g → last_generation (content files auto_path) ≡ Ok g
  pub stamps : AreStamps files (pairs_of string_bytes cache.stamps.entries)
  pub sources : AreScanned cache.rules files (found_of cache.found.scan) (pairs_of vec_items cache.sources.entries)

-- The names of the file at this path are not kept.
abbrev pub IsNoSource : List ℕ → Cache → Type 0
IsNoSource path cache = All (λ s. s.0 ≢ path) (pairs_of vec_items cache.sources.entries)
