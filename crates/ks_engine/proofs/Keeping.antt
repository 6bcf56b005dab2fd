-- What is kept of a tree: what a look-up finds holds of the files, and what is added does.
use Rattle.ks_engine.proofs.Prelude.{place_from_lookup, ◌≡◌, Ok, arith, length, length-append, append-nil, ◌≢◌, ◌⊎◌, is_some, cond, ℕ, slice_get, false, List, [], ◌∷◌, ◌++◌, Some, refl, ap, sym, ◌∙◌, subst, bytes_eq, All, All-nil, All-cons, All-head, All-tail, bytes_eq-Decides, lookup, insert_entry, get_or_append_left, get_or-append_seam, found_of, Files, content, SameButBoth, auto_path, command_path, command_temporary, AutoConf, Stamp, CommandFile, CommandTemporary, Cache, ScanRules, last_generation, pairs_of, value_of, with_pair, Grows, IsCached, AreScanned, IsNoSource, IsCacheOf, scanned, common_steps, rules, slice_get_within, get_or_from_slice_get, cond_both, ⊎_elim, IsTrue, is_name, stamp_path}
use Rattle.std.specs.Prelude.{string_bytes, vec_items}
use Rattle.ks_engine.proofs.LowerLaws.{apart}

module _ {V : Type 0} (P : List ℕ → V → Type 0) where
  abbrev at : List ℕ × V → Type 0
  at e = P e.0 e.1

  pub kept_at : (x : List ℕ) (v : V) (i : ℕ) (es : List (List ℕ × V)) → All (λ e. P e.0 e.1) es → slice_get es i ≡ Some (x, v) → P x v
  kept_at x v i es all is = subst at (get_or_from_slice_get es i (x, v) (x, v) is) (all i (x, v) (slice_get_within es i (x, v) is))

  pub kept_found : (x : List ℕ) (v : V) (es : List (List ℕ × V)) → All (λ e. P e.0 e.1) es → value_of x es ≡ Some v → P x v
  kept_found x v es all is =
      let (i, k, here, same) = place_from_lookup (bytes_eq x) es v is in rw ((bytes_eq-Decides x k).0 same) (kept_at k v i es all here)

  pub kept_found_or_at : (x : List ℕ) (v : V) (es : List (List ℕ × V)) → All (λ e. P e.0 e.1) es
      → (value_of x es ≡ Some v) ⊎ ((i : ℕ) × (slice_get es i ≡ Some (x, v))) → P x v
  kept_found_or_at x v es all = ⊎_elim (kept_found x v es all) (λ is. kept_at x v is.0 es all is.1)

  pub kept_added : (k : List ℕ) (v : V) (es : List (List ℕ × V)) → All (λ e. P e.0 e.1) es → P k v → All (λ e. P e.0 e.1) (with_pair k v es)
  kept_added k v [] all new = All-cons at (k, v) [] new (All-nil at)
  kept_added k v (e ∷ es) all new = cond_both (bytes_eq k e.0) _ _ (All at)
      (λ t. All-cons at (e.0, v) es (subst (λ y. P y v) ((bytes_eq-Decides k e.0).0 t) new) (All-tail at e es all))
      (λ f. All-cons at e (with_pair k v es) (All-head at e es all) (kept_added k v es (All-tail at e es all) new))

-- ---- a map by the bytes of its keys

module _ {K V : Type 0} (bytes : K → List ℕ) where
  pub value-pairs : (x : List ℕ) (es : List (K × V)) → value_of x (pairs_of bytes es) ≡ lookup (λ k. bytes_eq x (bytes k)) es
  value-pairs x [] = refl
  value-pairs x (e ∷ es) = ap (cond (bytes_eq x (bytes e.0)) (Some e.1)) (value-pairs x es)

  pub pairs-insert : (es : List (K × V)) (k : K) (v : V)
      → pairs_of bytes (insert_entry (λ a b. bytes_eq (bytes a) (bytes b)) es k v) ≡ with_pair (bytes k) v (pairs_of bytes es)
  pairs-insert [] k v = refl
  pairs-insert (e ∷ es) k v = search (rules, (pairs-insert es k v))

-- ---- what a record writes is nothing that is kept

pub cache_kept : (old new : Files) (o : List ℕ) (cache : Cache) → SameButBoth (command_temporary o) (command_path o) old new
    → IsNoSource (command_temporary o) cache → IsNoSource (command_path o) cache → IsCacheOf old cache → IsCacheOf new cache
cache_kept old new o cache others no_temporary no_path is =
    let kept = λ (x : List ℕ) (name : IsTrue (is_name x)).
    others (stamp_path x) (apart (Stamp x) (CommandTemporary o) name tt (λ e. cc)) (apart (Stamp x) (CommandFile o) name tt (λ e. cc)) in
    record {
      generation = λ g known. ap last_generation (others auto_path (apart AutoConf (CommandTemporary o) tt tt (λ e. cc))
          (apart AutoConf (CommandFile o) tt tt (λ e. cc))) ∙ is.generation g known;
      stamps = λ k d lt. let (name, has) = is.stamps k d lt in (name, rw (kept _ name) has);
      sources = λ k d lt. let (within, stated) = is.sources k d lt in (within, rw (others _ (no_temporary k d lt) (no_path k d lt)) stated);
    }

-- ---- a path that a map has not

pub not_kept : (x : List ℕ) {V : Type 0} (es : List (List ℕ × V)) → is_some (value_of x es) ≡ false → All (λ e. e.0 ≢ x) es
not_kept x [] none = All-nil _
not_kept x (e ∷ es) none = search (rules, All-cons, (bytes_eq-Decides x e.0), (not_kept x es (grind arith)))

-- ---- more sources

sources_longer : (r : ScanRules) (files : Files) (found more : List (List (List ℕ))) (es : List (List ℕ × ℕ)) → AreScanned r files found es → AreScanned r files (found ++ more) es
sources_longer r files found more es are = λ k d lt. search (rules, length-append, get_or_append_left, (are k d lt))

-- the names of one more file are kept at the end
pub last_kept : (r : ScanRules) (files : Files) (found : List (List (List ℕ))) (path : List ℕ) (names : List (List ℕ)) (all : List (List (List ℕ))) (place : ℕ)
    → place ≡ length found → all ≡ found ++ names ∷ [] → scanned r path (content files path) ≡ Ok names → IsCached r files all path place
last_kept r files found path names all place at is stated = search (rules, length-append, get_or-append_seam)

-- what is kept is as before, and there may be more sources
pub cache_grown : (files : Files) (old new : Cache) → new.rules ≡ old.rules → new.generation ≡ old.generation → pairs_of string_bytes new.stamps.entries ≡ pairs_of string_bytes old.stamps.entries
    → pairs_of vec_items new.sources.entries ≡ pairs_of vec_items old.sources.entries → Grows (found_of old.found.scan) (found_of new.found.scan) → IsCacheOf files old
    → IsCacheOf files new
cache_grown files old new rules generation stamps sources grows is = grind (arith, common_steps, sources_longer)

pub grows_none : (old new : List (List (List ℕ))) → new ≡ old → Grows old new
grows_none old new same = ([], same ∙ sym (append-nil old))
