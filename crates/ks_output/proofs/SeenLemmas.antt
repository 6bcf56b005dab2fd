-- Names that came so far.
use Rattle.ks_output.proofs.Prelude.{◌≡◌, ◌++◌, ℕ, true, List, [], ◌∷◌, inl, inr, refl, ap, sym, ◌∙◌, bytes_eq, arith, rules, common_steps, cond, cond-true, cond-false, cases_Bool, bytes_decides, map-append, Configuration, Kind, is_eq, is_eq-slice_cmp, order, nat_list_cmp_total}
use Rattle.std.specs.Prelude.{◌||◌, String, string_bytes, map as map_list}
use Rattle.std.specs.List.{list_any}
use Rattle.std.specs.FinMap as map
use Rattle.std.proofs.lemmas.List.Folds.{list_any-append}
use Rattle.indexmap.specs.IndexSet.{insert_key}
use Rattle.ks_output.specs.SeenNames.{is_in, AreNamesOf}

module _ {Y : Type 0} where
  -- a name is looked up among the keys of a set
  pub names-any : (x : List ℕ) (ks : List (String Y)) → list_any (λ k. bytes_eq x (string_bytes k)) ks ≡ list_any (bytes_eq x) (map_list string_bytes ks)
  names-any x [] = refl
  names-any x (k ∷ ks) = ap (λ b. bytes_eq x (string_bytes k) || b) (names-any x ks)

same_names : (x : List ℕ) (a b : List ℕ) → bytes_eq x a ≡ true → a ≡ b → bytes_eq x b ≡ true
same_names x a b e is = ap (bytes_eq x) (sym is) ∙ e

-- a name that is there once more
there : (x y : List ℕ) (xs : List (List ℕ)) → list_any (bytes_eq y) xs ≡ true → list_any (bytes_eq x) xs ≡ (bytes_eq x y || list_any (bytes_eq x) xs)
there x y xs e = elim (cases_Bool (bytes_eq x y)) [
  | inl same ↦
      let one = (bytes_decides x y).0 same in
      (ap (λ z. list_any (bytes_eq z) xs) one ∙ e) ∙ sym (ap (λ b. b || list_any (bytes_eq x) xs) same)
  | inr other ↦ sym (ap (λ b. b || list_any (bytes_eq x) xs) other)
]

-- and a new one behind the others
pub behind : (x y : List ℕ) (xs : List (List ℕ)) → list_any (bytes_eq x) (xs ++ y ∷ []) ≡ (bytes_eq x y || list_any (bytes_eq x) xs)
behind x y xs = grind (arith, common_steps, list_any-append)

module _ {Y : Type 0} where
  pub keys_grow : (x : List ℕ) (ks : List (String Y)) (k : String Y)
      → list_any (bytes_eq x) (map_list string_bytes (insert_key (λ a b. bytes_eq (string_bytes a) (string_bytes b)) ks k))
      ≡ (bytes_eq x (string_bytes k) || list_any (bytes_eq x) (map_list string_bytes ks))
  keys_grow x ks k =
      let any = names-any (string_bytes k) ks in
      elim (cases_Bool (list_any (λ y. bytes_eq (string_bytes k) (string_bytes y)) ks)) [
        | inl old ↦ ap (λ all. list_any (bytes_eq x) (map_list string_bytes all)) (cond-true _ _ _ old) ∙ there x (string_bytes k) (map_list string_bytes ks) (sym any ∙ old)
        | inr new ↦ ap (λ all. list_any (bytes_eq x) (map_list string_bytes all)) (cond-false _ _ _ new)
            ∙ ap (list_any (bytes_eq x)) (map-append string_bytes ks (k ∷ [])) ∙ behind x (string_bytes k) (map_list string_bytes ks)
      ]

  -- the keys of a set after one more of them
  pub keys_after : (ks : List (String Y)) (k : String Y)
      → map_list string_bytes (insert_key (λ a b. bytes_eq (string_bytes a) (string_bytes b)) ks k)
      ≡ cond (list_any (bytes_eq (string_bytes k)) (map_list string_bytes ks)) (map_list string_bytes ks) (map_list string_bytes ks ++ string_bytes k ∷ [])
  keys_after ks k =
      let any = names-any (string_bytes k) ks in
      elim (cases_Bool (list_any (λ y. bytes_eq (string_bytes k) (string_bytes y)) ks)) [
        | inl old ↦ ap (map_list string_bytes) (cond-true _ _ _ old) ∙ sym (cond-true _ _ _ (sym any ∙ old))
        | inr new ↦ ap (map_list string_bytes) (cond-false _ _ _ new) ∙ map-append string_bytes ks (k ∷ []) ∙ sym (cond-false _ _ _ (sym any ∙ new))
      ]

pub nothing_seen : (m : Configuration) (names : List (List ℕ)) → m ≡ map.empty → names ≡ [] → AreNamesOf m names
unfolding is_in
nothing_seen m names none no_name x = search (rules, common_steps, map.get-empty)

pub entered : (m : Configuration) (name : List ℕ) (s : Kind × List ℕ) (x : List ℕ) → map.contains_key (map.insert m name s) x ≡ (is_eq (order x name) || map.contains_key m x)
entered m name s x = let got = map.get-insert nat_list_cmp_total m name s x in elim (cases_Bool (is_eq (order x name))) [
  | inl same ↦ grind (arith, common_steps, got, same)
  | inr other ↦ grind (arith, common_steps, got, other)
]

-- the names of a configuration with one more entry
pub names_grow : (m : Configuration) (name : List ℕ) (s : Kind × List ℕ) (before after : List (List ℕ)) → AreNamesOf m before
    → ((x : List ℕ) → is_in x after ≡ (bytes_eq x name || is_in x before)) → AreNamesOf (map.insert m name s) after
names_grow m name s before after old grown x =
    grown x ∙ ap (λ b. bytes_eq x name || b) (old x) ∙ ap (λ b. b || map.contains_key m x) (sym (is_eq-slice_cmp x name)) ∙ sym (entered m name s x)

abbrev typed : Configuration → Configuration
typed m = m

pub names_of_later : (m later : Configuration) (name : List ℕ) (s : Kind × List ℕ) (before after : List (List ℕ)) → later ≡ map.insert m name s → AreNamesOf m before
    → ((x : List ℕ) → is_in x after ≡ (bytes_eq x name || is_in x before)) → AreNamesOf later after
names_of_later m later name s before after is old grown x = names_grow m name s before after old grown x ∙ ap (λ c. map.contains_key (typed c) x) (sym is)
