-- Rows by their places: what stands at a place of a map, and what values at the places of symbols give these.
use Rattle.ks_symbols.proofs.Prelude.{◌≡◌, ℕ, zero, suc, ◌<◌, Bool, true, false, cond, ◌&&◌, T, List, [], ◌∷◌, ◌++◌, append_assoc, Option, Some, None, option_map, bytes_eq, length, set, get_or, refl, sym, ap, ap₂, subst, ◌∙◌, arith, is_lt, is_eq, nat_list_eq_equiv, bytes_decides, is_eq-slice_cmp, Ordering, Less, find, is_sorted, below_all, same_Some, slice_get-map, Record, name_in, entry_in, Kind, NameMap, kinds_in}
use Rattle.std.proofs.Common.{map as map_list, replicate}
use Rattle.std.specs.List.{slice_get}
use Rattle.std.specs.FinMap as map
use Rattle.ks_symbols.specs.Table.{with_entry}
use Rattle.ks_symbols.specs.WrittenValues.{given, indexed}
use Rattle.ks_symbols.proofs.LastOnes.{order, first, second, two}
use Rattle.ks_symbols.proofs.Records.{entries_of, find_after, same_order}

-- ---- a row that stands at a place of a map

less_is : (o : Ordering) → T (is_lt o) → o ≡ Less
less_is o h = grind arith

below_index : {X : Type 0} (x : List ℕ) (es : List (List ℕ × X)) (i : ℕ) (e : List ℕ × X) → T (below_all order x es) → slice_get es i ≡ Some e
    → order x e.0 ≡ Less
below_index x [] i e h at = absurd (cc at)
below_index x (f ∷ es) zero e h at = ap (λ (g : List ℕ × _). order x g.0) (sym (same_Some f e at)) ∙ less_is _ (first _ _ h)
below_index x (f ∷ es) (suc i) e h at = below_index x es i e (second _ _ h) at

pub found_index : {X : Type 0} (es : List (List ℕ × X)) (i : ℕ) (e : List ℕ × X) → T (is_sorted order es) → slice_get es i ≡ Some e → find order e.0 es ≡ Some e.1
found_index [] i e h at = absurd (cc at)
found_index (f ∷ es) zero e h at = grind (arith, same_order, same_Some)
found_index (f ∷ es) (suc i) e h at =
    find_after e.0 f es (ap is_eq (below_index f.0 es i e (first _ _ h) at)) ∙ found_index es i e (second _ _ h) at

-- the record at an index of which the name is known
pub indexed_record : {V : Type 0} (bs q : List ℕ) (rs : List (Record V)) (i : ℕ) (d : Record V) → i < length rs → name_in bs (get_or rs i d) ≡ q
    → slice_get (map_list (entry_in bs) rs) i ≡ Some (q, (entry_in bs (get_or rs i d)).1)
indexed_record bs q (r ∷ rs) zero d lt is = ap (λ (n : List ℕ). Some (n, (entry_in bs r).1)) is
indexed_record bs q (r ∷ rs) (suc i) d lt is = indexed_record bs q rs i d (omega arith) is
indexed_record bs q [] i d lt is = absurd (omega arith)

-- ---- the kinds of a table

module _ {X Y : Type 0} (f : X → Y) where
  abbrev keyed : List ℕ × X → List ℕ × Y
  keyed e = (e.0, f e.1)

  below-keyed : (x : List ℕ) (es : List (List ℕ × X)) → below_all order x (map_list keyed es) ≡ below_all order x es
  below-keyed x [] = refl
  below-keyed x (e ∷ es) = ap (λ b. is_lt (order x e.0) && b) (below-keyed x es)

  sorted-keyed : (es : List (List ℕ × X)) → is_sorted order (map_list keyed es) ≡ is_sorted order es
  sorted-keyed [] = refl
  sorted-keyed (e ∷ es) = ap₂ (λ a b. a && b) (below-keyed e.0 es) (sorted-keyed es)

pub entries-kinds_in : (m : NameMap (Kind × List ℕ)) → map.entries (kinds_in m) ≡ map_list (λ e. (e.0, e.1.0)) (map.entries m)
unfolding kinds_in
entries-kinds_in m = entries_of _ (subst T (sym (sorted-keyed (λ (s : Kind × List ℕ). s.0) (map.entries m))) (map.entries_sorted m))

pub kind_index : (m : NameMap (Kind × List ℕ)) (i : ℕ) (x : List ℕ) (k : Kind) (t : List ℕ) → slice_get (map.entries m) i ≡ Some (x, (k, t))
    → slice_get (map.entries (kinds_in m)) i ≡ Some (x, k)
kind_index m i x k t at =
    ap (λ es. slice_get es i) (entries-kinds_in m) ∙ slice_get-map (λ e. (e.0, e.1.0)) (map.entries m) i ∙ ap (option_map (λ e. (e.0, e.1.0))) at

-- ---- an entry in front, if there is one

module _ {X : Type 0} where
  with_below : (x y : List ℕ) (o : Option X) (es : List (List ℕ × X)) → T (is_lt (order x y)) → T (below_all order x es)
      → T (below_all order x (with_entry y o es))
  with_below x y None es p q = q
  with_below x y (Some s) es p q = two _ _ p q

  with_sorted : (y : List ℕ) (o : Option X) (es : List (List ℕ × X)) → T (below_all order y es) → T (is_sorted order es)
      → T (is_sorted order (with_entry y o es))
  with_sorted y None es p q = q
  with_sorted y (Some s) es p q = two _ _ p q

  not_below : (q : List ℕ) (es : List (List ℕ × X)) → T (below_all order q es) → find order q es ≡ None
  not_below q [] h = refl
  not_below q (e ∷ es) h = ap (λ r. cond (is_eq r) (Some e.1) (find order q es)) (less_is _ (first _ _ h)) ∙ not_below q es (second _ _ h)

  -- of a name that is below all others
  found_with : (x y : List ℕ) (o : Option X) (es : List (List ℕ × X)) → T (below_all order y es)
      → find order x (with_entry y o es) ≡ cond (bytes_eq y x) o (find order x es)
  found_with x y None es h = grind (arith, bytes_decides, not_below)
  found_with x y (Some s) es h = let test = is_eq-slice_cmp x y in grind (arith, nat_list_eq_equiv, test)

-- ---- what values at the places of symbols give

indexed_below : (x : List ℕ) (es : List (List ℕ × Kind)) (vs : List (Option (List ℕ))) → T (below_all order x es) → T (below_all order x (indexed es vs))
unfolding indexed
indexed_below x [] vs h = tt
indexed_below x (e ∷ es) [] h = tt
indexed_below x (e ∷ es) (v ∷ vs) h = with_below x e.0 (given e.1 v) (indexed es vs) (first _ _ h) (indexed_below x es vs (second _ _ h))

pub indexed_sorted : (es : List (List ℕ × Kind)) (vs : List (Option (List ℕ))) → T (is_sorted order es) → T (is_sorted order (indexed es vs))
unfolding indexed
indexed_sorted [] vs h = tt
indexed_sorted (e ∷ es) [] h = tt
indexed_sorted (e ∷ es) (v ∷ vs) h = with_sorted e.0 (given e.1 v) (indexed es vs) (indexed_below e.0 es vs (first _ _ h)) (indexed_sorted es vs (second _ _ h))

pub indexed_end : (es : List (List ℕ × Kind)) → indexed es [] ≡ []
unfolding indexed
indexed_end [] = refl
indexed_end (e ∷ es) = refl

-- one symbol more
pub indexed_next : (rows : List (List ℕ × (Kind × List ℕ))) (x : List ℕ) (k : Kind) (v : Option (List ℕ)) (es : List (List ℕ × Kind)) (vs : List (Option (List ℕ)))
    → (rows ++ with_entry x (given k v) []) ++ indexed es vs ≡ rows ++ indexed ((x, k) ∷ es) (v ∷ vs)
unfolding indexed
indexed_next rows x k v es vs = append_assoc rows (with_entry x (given k v) []) (indexed es vs) ∙ ap (λ l. rows ++ l) (front (given k v))
  where
    front : (o : Option (Kind × List ℕ)) → with_entry x o [] ++ indexed es vs ≡ with_entry x o (indexed es vs)
    front None = refl
    front (Some s) = refl

pub indexed_none : {A : Type 0} (f : A → List ℕ) (n : ℕ) (es : List (List ℕ × Kind)) → indexed es (map_list (option_map f) (replicate n None)) ≡ []
unfolding indexed
indexed_none f n [] = refl
indexed_none f zero (e ∷ es) = refl
indexed_none f (suc n) (e ∷ es) = indexed_none f n es

overwritten : {A : Type 0} (b : Bool) (x y z : A) → cond b x z ≡ cond b x (cond b y z)
overwritten true x y z = refl
overwritten false x y z = refl

swapped : {A : Type 0} (a b : Bool) (x y z : A) → (a ≡ true → b ≡ true → ⊥) → cond a x (cond b y z) ≡ cond b y (cond a x z)
swapped true true x y z apart = absurd (apart refl refl)
swapped true false x y z apart = refl
swapped false b x y z apart = refl

-- a value at the place of a symbol gives that symbol something else, and no other one
pub found_set : (es : List (List ℕ × Kind)) (vs : List (Option (List ℕ))) (i : ℕ) (e : List ℕ × Kind) (v : Option (List ℕ)) (x : List ℕ)
    → T (is_sorted order es) → length vs ≡ length es → slice_get es i ≡ Some e
    → find order x (indexed es (set vs i v)) ≡ cond (bytes_eq e.0 x) (given e.1 v) (find order x (indexed es vs))
unfolding indexed
found_set [] vs i e v x h long at = absurd (cc at)
found_set (f ∷ es) [] i e v x h long at = absurd (omega arith)
found_set (f ∷ es) (w ∷ vs) zero e v x h long at =
    let low = indexed_below f.0 es vs (first _ _ h) in
    found_with x f.0 (given f.1 v) (indexed es vs) low
    ∙ overwritten (bytes_eq f.0 x) (given f.1 v) (given f.1 w) (find order x (indexed es vs))
    ∙ ap (cond (bytes_eq f.0 x) (given f.1 v)) (sym (found_with x f.0 (given f.1 w) (indexed es vs) low))
    ∙ ap (λ (g : List ℕ × Kind). cond (bytes_eq g.0 x) (given g.1 v) (find order x (indexed (f ∷ es) (w ∷ vs)))) (same_Some f e at)
found_set (f ∷ es) (w ∷ vs) (suc i) e v x h long at =
    let above = below_index f.0 es i e (first _ _ h) at in
    found_with x f.0 (given f.1 w) (indexed es (set vs i v)) (indexed_below f.0 es (set vs i v) (first _ _ h))
    ∙ ap (cond (bytes_eq f.0 x) (given f.1 w)) (found_set es vs i e v x (second _ _ h) (omega arith) at)
    ∙ swapped (bytes_eq f.0 x) (bytes_eq e.0 x) (given f.1 w) (given e.1 v) (find order x (indexed es vs)) (λ p q. apart f.0 e.0 x above p q)
    ∙ ap (cond (bytes_eq e.0 x) (given e.1 v)) (sym (found_with x f.0 (given f.1 w) (indexed es vs) (indexed_below f.0 es vs (first _ _ h))))
  where
    apart : (a b x : List ℕ) → order a b ≡ Less → bytes_eq a x ≡ true → bytes_eq b x ≡ true → ⊥
    apart a b x lt p q =
        let same : a ≡ b = (bytes_decides a x).0 p ∙ sym ((bytes_decides b x).0 q) in
        absurd (cc (subst (λ (n : List ℕ). order n b ≡ Less) same lt, same_order b))
