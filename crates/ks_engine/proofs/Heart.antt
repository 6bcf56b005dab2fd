-- What stamps and generations say of a history.
use Rattle.ks_engine.proofs.Prelude.{◌≡◌, ◌⊎◌, inl, inr, ℕ, ◌+◌, ◌<◌, ◌≤◌, List, Option, Some, true, false, ◌&&◌, cond, nat_lt, refl, arith, bytes_eq, is_in, History, Begun, Synced, Broken, Recorded, LastRecord, done, WasSynced, last_record, NoneBroken, renewed_since_sync, changed_since, suspect_since, IsHistory, MayBeHeader, stamp, common_steps, rules}

pub stamp-le : (h : History) (x : List ℕ) → IsHistory h → stamp h x ≤ done h + 1
stamp-le (Begun texts generation stamps) x is = is.1 x
stamp-le (Synced t config past) x is = grind (arith, common_steps, (stamp-le past x is.0))
stamp-le (Broken t config renewed past) x is = grind (arith, common_steps, (stamp-le past x is.0))
stamp-le (Recorded o command names header past) x is = stamp-le past x is.0

-- After a completed synchronisation a stamp is above the generation if an event since touched it.
pub renewed_since_sync-lt : (h : History) (x : List ℕ) → IsHistory h → WasSynced h → renewed_since_sync h x ≡ nat_lt (done h) (stamp h x)
renewed_since_sync-lt (Begun texts generation stamps) x is some = absurd some
renewed_since_sync-lt (Synced t config past) x is some = grind (arith, common_steps, (stamp-le past x is.0))
renewed_since_sync-lt (Broken t config renewed past) x is some = grind (arith, common_steps, (renewed_since_sync-lt past x is.0 some))
renewed_since_sync-lt (Recorded o command names header past) x is some = renewed_since_sync-lt past x is.0 some

-- cases of an object's last record, where a record is added
pub record_cases : {A : Type 0} (p o : List ℕ) (a : A) (b : Option A) (r : A) → cond (bytes_eq p o) (Some a) b ≡ Some r →
    ((bytes_eq p o ≡ true) × (a ≡ r)) ⊎ ((bytes_eq p o ≡ false) × (b ≡ Some r))
record_cases p o a b r = search rules

-- A record stands after a completed synchronisation: its past is a history, which the events since went on with, and its header is one of that time.
pub recorded_synced : (h : History) (o : List ℕ) (r : LastRecord) → IsHistory h → last_record h o ≡ Some r
    → WasSynced r.past × WasSynced h × (done r.past ≤ done h) × IsHistory r.past × MayBeHeader r.past r.header
recorded_synced (Begun texts generation stamps) o r is last = absurd cc
recorded_synced (Synced t config past) o r is last = let was = recorded_synced past o r is.0 last in (was.0, tt, omega arith, was.3, was.4)
recorded_synced (Broken t config renewed past) o r is last = recorded_synced past o r is.0 last
recorded_synced (Recorded p command names header past) o r is last = grind (arith, common_steps, (record_cases p o _ _ r last), (recorded_synced past o r is.0))

-- THE HEART: an object's name is suspect exactly if its stamp is above the generation of the object's record.
pub suspect_since-lt : (h : History) (o : List ℕ) (r : LastRecord) (x : List ℕ) → IsHistory h → last_record h o ≡ Some r →
    suspect_since h o x ≡ (is_in r.names x && nat_lt (done r.past) (stamp h x))
suspect_since-lt (Begun texts generation stamps) o r x is e = absurd cc
suspect_since-lt (Synced t config past) o r x is e = grind (arith, common_steps, (recorded_synced past o r is.0 e), (suspect_since-lt past o r x is.0 e))
suspect_since-lt (Broken t config renewed past) o r x is e
    = grind (arith, common_steps, (recorded_synced past o r is.0 e), (suspect_since-lt past o r x is.0 e))
suspect_since-lt (Recorded p command names header past) o r x is e
    = grind (arith, common_steps, (record_cases p o _ _ r e), (renewed_since_sync-lt past x is.0 is.1), (suspect_since-lt past o r x is.0))

-- Where none was broken off, suspect and changed are one.
none_touched : (h : History) (x : List ℕ) → NoneBroken h → renewed_since_sync h x ≡ false
none_touched (Begun texts generation stamps) x n = refl
none_touched (Synced t config past) x n = refl
none_touched (Broken t config renewed past) x n = absurd n
none_touched (Recorded o command names header past) x n = none_touched past x n

pub suspect_since-changed_since : (h : History) (o x : List ℕ) → NoneBroken h → suspect_since h o x ≡ changed_since h o x
suspect_since-changed_since (Begun texts generation stamps) o x n = refl
suspect_since-changed_since (Synced t config past) o x n = grind (arith, (suspect_since-changed_since past o x n))
suspect_since-changed_since (Broken t config renewed past) o x n = absurd n
suspect_since-changed_since (Recorded p command names header past) o x n = grind (arith, (none_touched past x n), (suspect_since-changed_since past o x n))

-- A completed synchronisation has a generation, and there is one or none.
pub synced-lt : (h : History) → WasSynced h → 0 < done h
synced-lt (Begun texts generation stamps) some = absurd some
synced-lt (Synced t config past) some = omega arith
synced-lt (Broken t config renewed past) some = synced-lt past some
synced-lt (Recorded o command names header past) some = synced-lt past some

pub synced_or_not : (h : History) → WasSynced h ⊎ (WasSynced h → ⊥)
synced_or_not (Begun texts generation stamps) = inr (λ some. some)
synced_or_not (Synced t config past) = inl tt
synced_or_not (Broken t config renewed past) = synced_or_not past
synced_or_not (Recorded o command names header past) = synced_or_not past
