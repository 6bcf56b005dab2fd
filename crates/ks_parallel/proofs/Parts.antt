-- A history without the records of some objects, and with more records: what is said of it by all else is the same.
use Rattle.ks_parallel.proofs.Prelude.{◌≡◌, ◌⊎◌, ℕ, ◌+◌, ◌≤◌, List, [], ◌∷◌, Option, Some, None, Bool, true, false, cond, length, option_map, sym, ◌∙◌, ap, refl, subst, bytes_eq, filter, cond-true, cond-false, false_from_ne_true, bytes_eq-Decides, max_bytes, is_in, auto_text, Defines, Texts, differs, History, Begun, Synced, Broken, Recorded, LastRecord, before, done, WasSynced, last_record, IsHistory, MayBeHeader, AreAllRenewed, IsAuto, stamp, IsCommandFile, own_history, without, RecordEvent, with_record, with_records, rules}
use Rattle.ks_parallel.proofs.Each.{Each}

-- ---- a history without the records of some objects

-- what is said of a history by all but its records
pub record Stated : Type 1 where
  pub before : Texts
  pub done : ℕ
  pub stamp : List ℕ → ℕ
  pub synced : Type 0
  pub header : List ℕ → Type 0
  pub auto : Option (List ℕ) → Type 0

abbrev pub stated : History → Stated
stated h = record { before = before h; done = done h; stamp = stamp h; synced = WasSynced h; header = MayBeHeader h; auto = IsAuto h }

module _ (p : List ℕ → Bool) where
  pub same_stated : (h : History) → stated (without p h) ≡ stated h
  same_stated (Begun texts generation stamps) = refl
  same_stated (Synced title config past) = ap (λ (w : Stated). record (stated (Synced title config past)) {
    done = w.done + 1;
    stamp = λ x. cond (differs w.before config x) (w.done + 1) (w.stamp x);
    auto = λ file. (file ≡ Some (auto_text title config (w.done + 1))) × (length (auto_text title config (w.done + 1)) ≤ max_bytes);
  }) (same_stated past)
  same_stated (Broken title config renewed past) = ap (λ (w : Stated). record w {
    stamp = λ x. cond (is_in renewed x) (w.done + 1) (w.stamp x);
    header = λ b. (AreAllRenewed renewed w.before config × Defines b title config) ⊎ w.header b;
  }) (same_stated past)
  same_stated (Recorded object command names header past) =
      elim (p object) as (λ b. stated (cond b (without p past) (Recorded object command names header (without p past))) ≡ stated past)
      [ true ↦ same_stated past | false ↦ same_stated past ]

  pub legal_without : (h : History) → IsHistory h → IsHistory (without p h)
  legal_without (Begun texts generation stamps) is = is
  legal_without (Synced title config past) is = let same = same_stated past in search (rules, (legal_without past is.0), (ap (λ (w : Stated). w.done) same))
  legal_without (Broken title config renewed past) is = search (rules, (ap (λ (w : Stated). w.before) (same_stated past)), (legal_without past is.0))
  legal_without (Recorded object command names header past) is =
      search (rules, (subst (λ (w : Stated). w.synced × w.header header) (sym (same_stated past)) (is.1, is.2)), (legal_without past is.0))

  -- an object whose records are left out has none, ..
  pub none_left : (h : History) (o : List ℕ) → p o ≡ true → last_record (without p h) o ≡ None
  none_left (Begun texts generation stamps) o out = refl
  none_left (Synced title config past) o out = none_left past o out
  none_left (Broken title config renewed past) o out = none_left past o out
  none_left (Recorded object command names header past) o out = search (rules, cond-false, false_from_ne_true, bytes_eq-Decides, (none_left past o out))

  -- .. and to any other one it is the same history
  pub own_without : (h : History) (o : List ℕ) → p o ≡ false → own_history (without p h) o ≡ own_history h o
  own_without (Begun texts generation stamps) o kept = refl
  own_without (Synced title config past) o kept = ap (λ h. Synced title config h) (own_without past o kept)
  own_without (Broken title config renewed past) o kept = ap (λ h. Broken title config renewed h) (own_without past o kept)
  own_without (Recorded object command names header past) o kept = search (rules, cond-false, false_from_ne_true, bytes_eq-Decides, (own_without past o kept))

-- ---- a history with more records

-- which says the same by all but its records
pub stated_with : (h : History) (es : List RecordEvent) → stated (with_records h es) ≡ stated h
stated_with h [] = refl
stated_with h (e ∷ es) = stated_with (with_record h e) es

-- A record may follow: a synchronisation was completed, and the header is one of that time.
abbrev pub MayFollow : History → RecordEvent → Type 0
MayFollow h e = WasSynced h × MayBeHeader h e.header

pub legal_with : (h : History) (es : List RecordEvent) → IsHistory h → Each (MayFollow h) es → IsHistory (with_records h es)
legal_with h [] legal each = legal
legal_with h (e ∷ es) legal each = legal_with (with_record h e) es (legal, each.0.0, each.0.1) each.1

pub may_follow : (h : History) (es : List RecordEvent) → IsHistory (with_records h es) → IsHistory h × Each (MayFollow h) es
may_follow h [] legal = (legal, tt)
may_follow h (e ∷ es) legal = let rest = may_follow (with_record h e) es legal in (rest.0.0, ((rest.0.1, rest.0.2), rest.1))

pub own_with : (h : History) (es : List RecordEvent) (o : List ℕ) → own_history (with_records h es) o
    ≡ with_records (own_history h o) (filter (λ e. bytes_eq e.object o) es)
own_with h [] o = refl
own_with h (e ∷ es) o = search (rules, (own_with (with_record h e) es o))

-- ---- the last record of an object, by the history without other records

own_done : (h : History) (o : List ℕ) → done (own_history h o) ≡ done h
own_done (Begun texts generation stamps) o = refl
own_done (Synced title config past) o = ap (λ n. n + 1) (own_done past o)
own_done (Broken title config renewed past) o = own_done past o
own_done (Recorded object command names header past) o = search (rules, (own_done past o))

-- what of a record the command file says
abbrev pub reported : LastRecord → List ℕ × List (List ℕ) × ℕ
reported r = (r.command, r.names, done r.past)

reported_own : (h : History) (o : List ℕ) → option_map reported (last_record (own_history h o) o) ≡ option_map reported (last_record h o)
reported_own (Begun texts generation stamps) o = refl
reported_own (Synced title config past) o = reported_own past o
reported_own (Broken title config renewed past) o = reported_own past o
reported_own (Recorded object command names header past) o = search (rules, cond-true, own_done, (reported_own past o))

-- the last records by two histories that are the same to the object
pub alike : (g h : History) (o : List ℕ) (r : LastRecord) → own_history g o ≡ own_history h o → last_record g o ≡ Some r → (s : LastRecord)
    × (last_record h o ≡ Some s) × (reported s ≡ reported r)
alike g h o r same last =
    found (last_record h o) refl (sym (reported_own h o) ∙ sym (ap (λ k. option_map reported (last_record k o)) same) ∙ reported_own g o ∙ ap (option_map reported) last)
  where
    found : (found : Option LastRecord) → last_record h o ≡ found → option_map reported found ≡ Some (reported r) → (s : LastRecord)
        × (last_record h o ≡ Some s) × (reported s ≡ reported r)
    found None at e = absurd cc
    found (Some s) at e = (s, at, cc)

pub alike_file : (o : List ℕ) (r s : LastRecord) (b : List ℕ) → reported s ≡ reported r → IsCommandFile o s b → IsCommandFile o r b
alike_file o r s b same is = search rules
