-- Which headers a fresh object may meet.
use Rattle.ks_engine.proofs.Prelude.{Bool, differs, sym, ◌∙◌, ◌≡◌, inl, inr, ℕ, List, Some, true, false, refl, about, or_parts, arith, header_text, definitions, texts_of, Texts, is_in, Configuration, History, Begun, Synced, Broken, Recorded, LastRecord, before, last_record, renewed_since_sync, suspect_since, MayBeHeader, IsLegalSync, IsHistory, alike_is_defined_alike, unchanged_is_kept, common_steps, rules}
use Rattle.ks_engine.proofs.Heart.{record_cases, recorded_synced}

-- a header by a configuration that has the texts that these have at x and at its companion
record HeaderAt (texts : Texts) (x : List ℕ) (b : List ℕ) : Type 0 where
  title : List ℕ
  config : Configuration
  written : definitions x b ≡ definitions x (header_text title config)
  source : IsLegalSync title config
  text : about (texts_of config) x ≡ about texts x

pub not_renewed : (d r : Bool) → (d ≡ true → r ≡ true) → r ≡ false → d ≡ false
not_renewed true r f e = sym (f refl) ∙ e
not_renewed false r f e = refl

header_at : (h : History) (x : List ℕ) (b : List ℕ) → IsHistory h → MayBeHeader h b → renewed_since_sync h x ≡ false → HeaderAt (before h) x b
header_at (Begun texts generation stamps) x b is may out = absurd may
header_at (Synced t config past) x b is may out = record { title = t; config = config; written = may x; source = is.1; text = refl }
header_at (Broken t config renewed past) x b is (inl new) out =
    let alike = not_renewed (differs (before past) config x) (is_in renewed x) (new.0 x) (or_parts (is_in renewed x) _ out).0 in
    record { title = t; config = config; written = new.1 x; source = is.1; text = sym ((unchanged_is_kept (before past) config x).0 alike) }
header_at (Broken t config renewed past) x b is (inr old) out = header_at past x b is.0 old (or_parts (is_in renewed x) _ out).1
header_at (Recorded o command names header past) x b is may out = header_at past x b is.0 may out

-- A name of an object isn't suspect: no stamp of it was renewed after the last completed synchronisation, neither now nor at the record, and it has the same
-- text.
untouched : (h : History) (o x : List ℕ) (r : LastRecord) → is_in r.names x ≡ true → last_record h o ≡ Some r → suspect_since h o x ≡ false
    → (renewed_since_sync h x ≡ false) × (renewed_since_sync r.past x ≡ false) × (about (before h) x ≡ about (before r.past) x)
untouched (Begun texts generation stamps) o x r named last out = absurd cc
untouched (Synced t config past) o x r named last out
    = grind (arith, common_steps, (unchanged_is_kept (before past) config x), (untouched past o x r named last))
untouched (Broken t config renewed past) o x r named last out = grind (arith, common_steps, (untouched past o x r named last))
untouched (Recorded p command names header past) o x r named last out = grind (arith, common_steps, (record_cases p o _ _ r last), (untouched past o x r named))

-- Of an object that is fresh at one of its names, the header defines the name in the same lines as at the record.
pub same_definitions : (h : History) (o : List ℕ) (r : LastRecord) (x : List ℕ) (b : List ℕ) → IsHistory h → last_record h o ≡ Some r → is_in r.names x ≡ true →
    suspect_since h o x ≡ false → MayBeHeader h b → definitions x b ≡ definitions x r.header
same_definitions h o r x b is last named out may =
    let (some, now, le, legal, was) = recorded_synced h o r is last in
    let none = untouched h o x r named last out in
    search (rules, (header_at h x b is may none.0), (header_at r.past x r.header legal was none.1), none, alike_is_defined_alike)
