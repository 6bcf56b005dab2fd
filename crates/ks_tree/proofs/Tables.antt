-- A tree whose keys are owned bytes, seen as a finite map from bytes.
use Rattle.ks_tree.proofs.Prelude.{◌≡◌, ℕ, Bool, T, cond, List, [], ◌∷◌, map, Option, option_map, Vec, bytes_eq, refl, sym, ap, subst, ◌∙◌, cases_Bool, cond-true, cond-false, is_eq-slice_cmp, BTreeMap, UpdatesBy, eq_by_cmp_equiv, is_eq, slice_cmp, nat_list_cmp_total, bytes_decides, entries, from_sorted, get-from_sorted, entries-from_sorted, is_sorted, get, find, get-from_entries, same_map, slice_cmp-IsAntisymmetric, nat_cmp-IsAntisymmetric, below_all, AllByRecursion, IsStrictlySortedBy, Ordering, Less, lookup, KeepsOthers, keys_of, named, rules}
use mathlib.Core.Logic.{⊎_elim}
use Rattle.std.specs.Ordering.{nat_cmp}

-- whether a stored key has the bytes q
abbrev pub is_key : {Y : Type 0} → List ℕ → Vec ℕ Y → Bool
is_key q k = is_eq (slice_cmp nat_cmp q k.items)

found : {Y V X : Type 0} (see : V → X) (q : List ℕ) (es : List (Vec ℕ Y × V))
    → find (slice_cmp nat_cmp) q (map (λ e. (e.0.items, see e.1)) es) ≡ option_map see (lookup (is_key q) es)
found see q [] = refl
found see q (e ∷ es) = search (rules, (found see q es))

-- what the map has at q is what the tree has there
pub get-named : {Y V X : Type 0} (see : V → X) (es : List (Vec ℕ Y × V)) (q : List ℕ) → get (named see es) q ≡ option_map see (lookup (is_key q) es)
get-named see es q = get-from_entries nat_list_cmp_total (map (λ e. (e.0.items, see e.1)) es) q ∙ found see q es

-- a write at the bytes bs leaves what each other key has
pub lookup-updates : {Y V : Type 0} (bs : List ℕ) (m n : BTreeMap (Vec ℕ Y) V) (w : Option V)
    → UpdatesBy (λ a b. slice_cmp nat_cmp a.items b.items) (λ k. slice_cmp nat_cmp bs k.items) m n w
    → (q : List ℕ) → lookup (is_key q) n.entries ≡ cond (bytes_eq bs q) w (lookup (is_key q) m.entries)
unfolding KeepsOthers
lookup-updates bs m n w h q =
    ⊎_elim
    (λ yes. subst (λ l. lookup (is_key l) n.entries ≡ w) ((bytes_decides bs q).0 yes) h.1 ∙ sym (cond-true (bytes_eq bs q) w _ yes))
    (λ no. h.3 (is_key q) (λ x y. (eq_by_cmp_equiv nat_list_cmp_total).congr q x.items y.items) (λ k here. search (rules, is_eq-slice_cmp))
    ∙ sym (cond-false (bytes_eq bs q) w _ no))
    (cases_Bool (bytes_eq bs q))

-- the same of the maps that are seen
pub get-updates : {Y V X : Type 0} (see : V → X) (bs : List ℕ) (m n : BTreeMap (Vec ℕ Y) V) (w : Option V)
    → UpdatesBy (λ a b. slice_cmp nat_cmp a.items b.items) (λ k. slice_cmp nat_cmp bs k.items) m n w
    → (q : List ℕ) → get (named see n.entries) q ≡ cond (bytes_eq bs q) (option_map see w) (get (named see m.entries) q)
get-updates see bs m n w h q = search (rules, get-named, (lookup-updates bs m n w h q))

abbrev tree_order : {Y : Type 0} → Vec ℕ Y → Vec ℕ Y → Ordering
tree_order a b = slice_cmp nat_cmp a.items b.items

below : {Y V X : Type 0} (see : V → X) (k : Vec ℕ Y) (es : List (Vec ℕ Y × V)) → AllByRecursion (λ y. tree_order k y ≡ Less) (keys_of es)
    → T (below_all (slice_cmp nat_cmp) k.items (map (λ e. (e.0.items, see e.1)) es))
below see k [] h = tt
below see k (e ∷ es) h = search (rules, (below see k es h.1))

sorted : {Y V X : Type 0} (see : V → X) (es : List (Vec ℕ Y × V)) → IsStrictlySortedBy tree_order (keys_of es)
    → T (is_sorted (slice_cmp nat_cmp) (map (λ e. (e.0.items, see e.1)) es))
unfolding IsStrictlySortedBy
sorted see [] h = tt
sorted see (e ∷ es) h = search (rules, below, (sorted see es h.1))

-- the entries of the map are those of the tree, in its order
pub entries-named : {Y V X : Type 0} (see : V → X) (es : List (Vec ℕ Y × V)) → IsStrictlySortedBy tree_order (keys_of es)
    → entries (named see es) ≡ map (λ e. (e.0.items, see e.1)) es
entries-named see es h =
    let shown = map (λ e. (e.0.items, see e.1)) es in
    ap entries (same_map nat_list_cmp_total (slice_cmp-IsAntisymmetric nat_cmp-IsAntisymmetric) (named see es) (from_sorted shown) (λ q.
    get-from_entries nat_list_cmp_total shown q ∙ sym (get-from_sorted (slice_cmp nat_cmp) shown q (sorted see es h))))
    ∙ entries-from_sorted (slice_cmp nat_cmp) shown (sorted see es h)
