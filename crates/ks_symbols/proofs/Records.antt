-- Records over bytes: they stay what they are when bytes are appended, and are found where their names rise.
use Rattle.ks_symbols.proofs.Prelude.{ordering_reverse, ◌≡◌, ℕ, zero, suc, ◌+◌, ◌<◌, ◌≤◌, false, T, length, List, [], ◌∷◌, ◌++◌, Option, Some, None, option_map, get_or, slice_range, refl, sym, ap, ap₂, add-one, ◌∙◌, arith, inl, inr, length-append, take-length, drop-append_seam, map-append, cases_lt, is_lt, is_eq, ordering_index, nat_list_cmp_total, Ordering, Less, Equal, Greater, find, is_sorted, below_all, IsNonDecreasingBy, IsPartitionPoint, searchable_from_sorted, slice_get, same_Some, bytes_eq, begins_with, Record, NameMap, name_in, entry_in, stated_in, LieIn, common_steps, rules, same_map}
use Rattle.std.proofs.Common.{map as map_list}
use Rattle.std.specs.FinMap as map
use Rattle.ks_symbols.proofs.LastOnes.{order, bytes_exact, first, second, turned, tied}

-- what lies in the bytes lies there still when bytes are appended
pub range_more : (bs more : List ℕ) (a b : ℕ) → b ≤ length bs → slice_range (bs ++ more) a b ≡ slice_range bs a b
range_more bs more a b h = grind (arith, common_steps)

-- what is appended lies at the end
pub range_end : (bs more : List ℕ) (a b : ℕ) → a ≡ length bs → b ≡ length bs + length more → slice_range (bs ++ more) a b ≡ more
range_end bs more a b from to = grind (arith, common_steps, drop-append_seam, take-length)

pub lie_more : {V : Type 0} (n m : ℕ) (rs : List (Record V)) → n ≤ m → LieIn n rs → LieIn m rs
lie_more n m [] le h = tt
lie_more n m (r ∷ rs) le h = search (rules, (lie_more n m rs))

pub lie_push : {V : Type 0} (n : ℕ) (rs : List (Record V)) (r : Record V) → LieIn n rs → r.middle ≤ n → r.end ≤ n → LieIn n (rs ++ r ∷ [])
lie_push n [] r h p q = (p, q, tt)
lie_push n (s ∷ rs) r h p q = search (rules, (lie_push n rs r))

pub stated_more : {V : Type 0} (bs more : List ℕ) (rs : List (Record (Option V))) → LieIn (length bs) rs → map_list (stated_in (bs ++ more)) rs
    ≡ map_list (stated_in bs) rs
stated_more bs more [] h = refl
stated_more bs more (r ∷ rs) h = search (rules, range_more, (stated_more bs more rs h.2))

pub entry_more : {V : Type 0} (bs more : List ℕ) (rs : List (Record V)) → LieIn (length bs) rs → map_list (entry_in (bs ++ more)) rs ≡ map_list (entry_in bs) rs
entry_more bs more [] h = refl
entry_more bs more (r ∷ rs) h = search (rules, range_more, (entry_more bs more rs h.2))

-- a row that is pushed with its name and its text
pub entry_pushed : {V : Type 0} (bs name text : List ℕ) (rs : List (Record V)) (r : Record V) → LieIn (length bs) rs
    → r.start ≡ length bs → r.middle ≡ length bs + length name → r.end ≡ length bs + length name + length text
    → map_list (entry_in ((bs ++ name) ++ text)) (rs ++ r ∷ []) ≡ map_list (entry_in bs) rs ++ (name, (r.value, text)) ∷ []
entry_pushed bs name text rs r h from mid to = search (rules, length-append, range_more, range_end, map-append, entry_more, lie_more)

-- a record that is pushed after its name and its text
pub stated_pushed : {V : Type 0} (bs name text : List ℕ) (rs : List (Record (Option V))) (r : Record (Option V)) → LieIn (length bs) rs
    → r.start ≡ length bs → r.middle ≡ length bs + length name → r.end ≡ length bs + length name + length text
    → map_list (stated_in ((bs ++ name) ++ text)) (rs ++ r ∷ []) ≡ map_list (stated_in bs) rs ++ (name, option_map (λ v. (v, text)) r.value) ∷ []
stated_pushed bs name text rs r h from mid to = search (rules, length-append, range_more, range_end, map-append, stated_more, lie_more)

pub find_after : {X : Type 0} (q : List ℕ) (e : List ℕ × X) (es : List (List ℕ × X)) → is_eq (order e.0 q) ≡ false → find order q (e ∷ es) ≡ find order q es
find_after q e es ne = grind (arith, turned)

pub not_equal : (o : Ordering) → T (is_lt o) → is_eq o ≡ false
not_equal o h = grind arith

-- what is above another is not below it
not_below : (x y : List ℕ) → T (is_lt (order x y)) → is_lt (order y x) ≡ false
not_below x y h = ap is_lt (turned x y) ∙ reversed (order x y) h
  where
    reversed : (o : Ordering) → T (is_lt o) → is_lt (ordering_reverse o) ≡ false
    reversed Less h = refl
    reversed Equal h = refl
    reversed Greater h = absurd h

pub same_order : (x : List ℕ) → order x x ≡ Equal
same_order x = is_equal (order x x) (turned x x)
  where
    is_equal : (o : Ordering) → o ≡ ordering_reverse o → o ≡ Equal
    is_equal Less e = absurd cc
    is_equal Equal e = refl
    is_equal Greater e = absurd cc

module _ {V : Type 0} (bs q : List ℕ) where
  -- a record that the search finds, in rising order, is the one
  below_at : (x : List ℕ) (rs : List (Record V)) (i : ℕ) (d : Record V) → i < length rs → T (below_all order x (map_list (entry_in bs) rs))
      → T (is_lt (order x (name_in bs (get_or rs i d))))
  below_at x (r ∷ rs) (suc i) d lt h = below_at x rs i d (omega arith) (second _ _ h)
  below_at x (r ∷ rs) zero d lt h = first _ _ h
  below_at x [] i d lt h = absurd (omega arith)

  pub found_at : (rs : List (Record V)) (i : ℕ) (d : Record V) → i < length rs → T (is_sorted order (map_list (entry_in bs) rs))
      → order (name_in bs (get_or rs i d)) q ≡ Equal
      → find order q (map_list (entry_in bs) rs) ≡ Some (entry_in bs (get_or rs i d)).1
  found_at [] i d lt h is = absurd (omega arith)
  found_at (r ∷ rs) zero d lt h is = grind (arith, turned)
  found_at (r ∷ rs) (suc i) d lt h is =
      let above = not_equal _ (below_at (name_in bs r) rs i d (omega arith) (first _ _ h)) in
      find_after q (entry_in bs r) (map_list (entry_in bs) rs) (rw (tied _ q is) at above) ∙ found_at rs i d (omega arith) (second _ _ h) is

  pub found_none : (rs : List (Record V)) → ((k : ℕ) (d : Record V) → k < length rs → is_eq (order (name_in bs (get_or rs k d)) q) ≡ false)
      → find order q (map_list (entry_in bs) rs) ≡ None
  found_none [] h = refl
  found_none (r ∷ rs) h =
      find_after q (entry_in bs r) (map_list (entry_in bs) rs) (h 0 r (omega arith)) ∙ found_none rs (λ k d lt. h (suc k) d (omega arith))

  rising : (rs : List (Record V)) → T (is_sorted order (map_list (entry_in bs) rs)) → (k : ℕ) (d : Record V) → suc k < length rs
      → is_lt (order (name_in bs (get_or rs (suc k) d)) (name_in bs (get_or rs k d))) ≡ false
  rising (r ∷ rs) h zero d lt = not_below (name_in bs r) (name_in bs (get_or rs 0 d)) (below_at (name_in bs r) rs 0 d (omega arith) (first _ _ h))
  rising (r ∷ rs) h (suc k) d lt = rising rs (second _ _ h) k d (omega arith)
  rising [] h k d lt = absurd (omega arith)

  -- what the search asks, and that nothing is there where it finds nothing
  pub searchable : (rs : List (Record V)) → T (is_sorted order (map_list (entry_in bs) rs))
      → IsNonDecreasingBy (λ r. ordering_index (order (name_in bs r) q)) rs
  searchable rs h = searchable_from_sorted nat_list_cmp_total (name_in bs) rs q (λ k d le lt. rw add-one (rising rs h k d (omega arith)))

  pub parted_none : (rs : List (Record V)) (i : ℕ) → IsPartitionPoint (λ r. order (name_in bs r) q ≡ Less) (λ r. order (name_in bs r) q ≡ Greater) rs i
      → find order q (map_list (entry_in bs) rs) ≡ None
  parted_none rs i h = found_none rs (λ k d lt. elim (cases_lt k i) [
    | inl before ↦ ap is_eq (h.0 k d (omega arith) before)
    | inr after ↦ ap is_eq (h.1 k d after lt)
  ])

-- the entries of the map of a rising list are the list
pub entries_of : {X : Type 0} (es : List (List ℕ × X)) → T (is_sorted order es) → map.entries (map.from_entries {R = order} es) ≡ es
entries_of es h =
    let same = map.same_map nat_list_cmp_total bytes_exact (map.from_entries es) (map.from_sorted es) in
    search (rules, same, map.get-from_entries, nat_list_cmp_total, map.get-from_sorted, map.entries-from_sorted)

-- whether the first record has a name
pub begins_at : {V : Type 0} (bs name : List ℕ) (rs : List (Record (Option V))) (r : Record (Option V)) → Some r ≡ slice_get rs 0
    → begins_with name (map_list (stated_in bs) rs) ≡ bytes_eq name (name_in bs r)
begins_at bs name [] r e = absurd (cc e)
begins_at {V} bs name (s ∷ rs) r e = ap (λ (x : Record (Option V)). bytes_eq name (name_in bs x)) (same_Some s r (sym e))

-- what is found, and which entries there are, where bytes and records are those of a map
module _ {V : Type 0} (bs inner : List ℕ) (rs records : List (Record V)) (m : NameMap (V × List ℕ)) (same : bs ≡ inner) (alike : rs ≡ records)
    (is : map.from_entries (map_list (entry_in inner) records) ≡ m) where
  pub found_in : (q : List ℕ) → find order q (map_list (entry_in bs) rs) ≡ map.get m q
  found_in q =
      ap₂ (λ (b : List ℕ) (xs : List (Record V)). find order q (map_list (entry_in b) xs)) same alike
      ∙ sym (map.get-from_entries nat_list_cmp_total (map_list (entry_in inner) records) q)
      ∙ ap (λ n. map.get n q) is

  pub entries_in : T (is_sorted order (map_list (entry_in inner) records)) → map_list (entry_in bs) rs ≡ map.entries m
  entries_in sorted =
      ap₂ (λ (b : List ℕ) (xs : List (Record V)). map_list (entry_in b) xs) same alike
      ∙ sym (entries_of (map_list (entry_in inner) records) sorted)
      ∙ ap map.entries is
