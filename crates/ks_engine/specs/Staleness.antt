-- What stale means, by the events of a history and their order alone: no generation is compared here.
use Rattle.std.specs.Prelude.{ℕ, List, [], Option, Some, None, Bool, false, ◌&&◌, ◌||◌, if◌then◌else◌, bytes_eq, find}
use Rattle.ks_symbols.specs.Names.{is_in}
use Rattle.ks_compare.specs.Changes.{differs}
use Rattle.ks_engine.specs.declared.staleness.Verdict.{Verdict}
use Rattle.ks_engine.specs.declared.staleness.Verdict.TheVariants.{Fresh, Changed}
use Rattle.ks_engine.specs.History.{History, Begun, Synced, Broken, Recorded, LastRecord, before, last_record}

-- the names found at an object's last record
abbrev pub names_of : Option LastRecord → List (List ℕ)
names_of None = []
names_of (Some r) = r.names

abbrev pub found : History → List ℕ → List (List ℕ)
found h o = names_of (last_record h o)

-- whether x was found at the last record of o, and a synchronisation completed since then changed it
abbrev pub changed_since : History → List ℕ → List ℕ → Bool
changed_since (Begun texts generation stamps) o x = false
changed_since (Synced title config past) o x = (is_in (found past o) x && differs (before past) config x) || changed_since past o x
changed_since (Broken title config renewed past) o x = changed_since past o x
changed_since (Recorded object command names header past) o x = if bytes_eq object o then false else changed_since past o x

-- whether a broken synchronisation since the last completed one renewed the stamp of x
abbrev pub renewed_since_sync : History → List ℕ → Bool
renewed_since_sync (Begun texts generation stamps) x = false
renewed_since_sync (Synced title config past) x = false
renewed_since_sync (Broken title config renewed past) x = is_in renewed x || renewed_since_sync past x
renewed_since_sync (Recorded object command names header past) x = renewed_since_sync past x

-- Whether x was found at the last record of o, and was touched since: changed by a completed synchronisation, or renewed by a broken one,
-- where those count as well that were broken off after the last completed synchronisation before the record.
abbrev pub suspect_since : History → List ℕ → List ℕ → Bool
suspect_since (Begun texts generation stamps) o x = false
suspect_since (Synced title config past) o x = (is_in (found past o) x && differs (before past) config x) || suspect_since past o x
suspect_since (Broken title config renewed past) o x = (is_in (found past o) x && is_in renewed x) || suspect_since past o x
suspect_since (Recorded object command names header past) o x = if bytes_eq object o then is_in names x && renewed_since_sync past x else suspect_since past o x

-- the first of an object's names for which it is stale: where none was broken off, and in any case
abbrev pub first_changed : History → List ℕ → Option (List ℕ)
first_changed h o = find (changed_since h o) (found h o)

abbrev pub first_suspect : History → List ℕ → Option (List ℕ)
first_suspect h o = find (suspect_since h o) (found h o)

-- what is answered for that name
abbrev pub verdict : Option (List ℕ) → Verdict
verdict None = Fresh
verdict (Some x) = Changed x
