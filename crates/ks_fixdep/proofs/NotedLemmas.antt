-- Names noted in turn, and paths looked up.
use Rattle.ks_fixdep.proofs.Prelude.{◌≡◌, ℕ, Bool, true, List, [], ◌∷◌, refl, ap, sym, ◌∙◌, Some, map, option_map, bytes_eq, lookup, String, map-append, unwrap_or, insert_entry, insert_key, added, paths_of, Role, noted, ◌||◌, list_all, list_any, get_or_from_slice_get, slice_get-map, slice_get_within, AllPass-from_list_all, arith, rules, common_steps}
use Rattle.std.specs.Prelude.{string_bytes}
use Rattle.std.specs.Prelude.{slice_get}

-- a map that gets an entry, unless its path is there
module _ {Y : Type 0} where
  entry-noted : (es : List (String Y × Role)) (k : String Y) (r v : Role)
      → v ≡ unwrap_or (lookup (λ x. bytes_eq (string_bytes k) (string_bytes x)) es) r
      → paths_of (insert_entry (λ a b. bytes_eq (string_bytes a) (string_bytes b)) es k v) ≡ added (paths_of es) (string_bytes k, r)
  entry-noted [] k r v is = ap (λ x. (string_bytes k, x) ∷ []) is
  entry-noted (e ∷ es) k r v is = grind (arith, common_steps, (entry-noted es k r v))

  pub noted_by : (new es : List (String Y × Role)) (k : String Y) (x : List ℕ) (r v : Role)
      → new ≡ insert_entry (λ a b. bytes_eq (string_bytes a) (string_bytes b)) es k v
      → v ≡ unwrap_or (lookup (λ x. bytes_eq (string_bytes k) (string_bytes x)) es) r → string_bytes k ≡ x → paths_of new ≡ added (paths_of es) (x, r)
  noted_by new es k x r v is old key = search (rules, entry-noted)

  pub path-at : (i : ℕ) (es : List (String Y × Role)) → slice_get (paths_of es) i ≡ option_map (λ e. (string_bytes e.0, e.1)) (slice_get es i)
  path-at i es = slice_get-map (λ e. (string_bytes e.0, e.1)) es i

  -- a name is looked up among the keys of a set
  pub names-any : (x : List ℕ) (ks : List (String Y)) → list_any (λ k. bytes_eq x (string_bytes k)) ks ≡ list_any (bytes_eq x) (map string_bytes ks)
  names-any x [] = refl
  names-any x (k ∷ ks) = ap (λ b. bytes_eq x (string_bytes k) || b) (names-any x ks)

  pub names-insert : (ks : List (String Y)) (k : String Y) → map string_bytes (insert_key (λ a b. bytes_eq (string_bytes a) (string_bytes b)) ks k) ≡ noted (map string_bytes ks) (string_bytes k)
  names-insert ks k = let same = names-any (string_bytes k) ks in grind (arith, common_steps, same, map-append)

-- what a test says of all items holds of the one at a place
pub passes_at : {X : Type 0} (test : X → Bool) (xs : List X) (k : ℕ) (x : X) → list_all test xs ≡ true → slice_get xs k ≡ Some x → test x ≡ true
passes_at test xs k x all at = ap test (sym (get_or_from_slice_get xs k x x at)) ∙ AllPass-from_list_all test xs all k x (slice_get_within xs k x at)
