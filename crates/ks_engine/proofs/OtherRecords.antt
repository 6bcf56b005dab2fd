-- A history without the records of other objects says the same of an object.
use Rattle.ks_engine.proofs.Prelude.{⊎_map, ◌≡◌, List, ℕ, ◌+◌, true, false, ◌&&◌, ◌||◌, cond, ap, ap₂, refl, bytes_eq, find, is_in, History, Begun, Synced, Broken, Recorded, before, done, WasSynced, found, changed_since, renewed_since_sync, suspect_since, IsHistory, MayBeHeader, own_history, OtherRecordsDoNotMatter}

-- what two histories say the same of an object; and the one is a history if the other is
abbrev SaySame : List ℕ → History → History → Type 0
SaySame o own h =
    (before own ≡ before h) × (done own ≡ done h) × (found own o ≡ found h o)
    × ((x : List ℕ) → (renewed_since_sync own x ≡ renewed_since_sync h x) × (changed_since own o x ≡ changed_since h o x)
    × (suspect_since own o x ≡ suspect_since h o x))
    × (WasSynced h → WasSynced own) × ((b : List ℕ) → MayBeHeader h b → MayBeHeader own b) × (IsHistory h → IsHistory own)

say_same : (h : History) (o : List ℕ) → SaySame o (own_history h o) h
say_same (Begun texts generation stamps) o = (refl, refl, refl, λ x. (refl, refl, refl), λ some. some, λ b may. may, λ is. is)
say_same (Synced title config past) o =
    let (texts, number, names, since, synced, header, legal) = say_same past o in
    let more : IsHistory (Synced title config past) → IsHistory (Synced title config (own_history past o)) = λ is. (legal is.0, is.1, rw number is.2) in
    (refl, ap (λ n. n + 1) number, names, λ x. (refl, simp (texts, names, (since x).1), simp (texts, names, (since x).2)), λ is. is, λ b may. may, more)
say_same (Broken title config renewed past) o =
    let (texts, number, names, since, synced, header, legal) = say_same past o in
    let own = Broken title config renewed (own_history past o) in
    let more : IsHistory (Broken title config renewed past) → IsHistory own = λ is. (legal is.0, is.1, rw texts is.2) in
    let written : (b : List ℕ) → MayBeHeader (Broken title config renewed past) b → MayBeHeader own b = λ b. ⊎_map (λ all. rw texts all) (header b) in
    (texts, number, names, λ x. (ap (λ b. is_in renewed x || b) (since x).0, (since x).1, simp (names, (since x).2)), synced, written, more)
say_same (Recorded object command names file past) o =
    let (texts, number, found, since, synced, header, legal) = say_same past o in
    let own = own_history past o in
    let h = Recorded object command names file past in
    let more : IsHistory h → IsHistory (Recorded object command names file own) = λ is. (legal is.0, synced is.1, header file is.2) in
    (elim (bytes_eq object o) as (λ b. bytes_eq object o ≡ b → SaySame o (cond b (Recorded object command names file own) own) h) [
      | true ↦ λ t. rw t (texts, number, refl, λ x. ((since x).0, refl, ap (λ b. is_in names x && b) (since x).0), synced, header, more)
      | false ↦ λ f. rw f (texts, number, found, since, synced, header, λ is. legal is.0)
    ]) refl

pub others_do_not_matter : OtherRecordsDoNotMatter
others_do_not_matter h o =
    let (texts, number, found, since, synced, header, legal) = say_same h o in
    record { legal = legal; found = found; changed = ap₂ find (λ i x. (since x).1 i) found; suspect = ap₂ find (λ i x. (since x).2 i) found }
