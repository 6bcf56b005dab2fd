-- The heads of names: of two names with unequal heads the lesser one has the lesser head. So records are in order by their names.
use Rattle.ks_symbols.proofs.Prelude.{◌≡◌, ℕ, zero, suc, ◌+◌, ◌<◌, ◌≤◌, Bool, length, List, [], ◌∷◌, ◌++◌, get_or, slice_range, refl, sym, ap, subst, ◌∙◌, arith, inl, inr, length-append, cases_lt, get_or-take, get_or-drop, get_or_past, length-take, All-nil, All-cons, All-head, All-tail, All-push, filter, IsSortedBy, IsSortedByKey, IsStableBy, IsStableByKey, ties, nat_cmp, is_lt, ordering_then, nat_cmp_is, nat_cmp_total, IsTotalOrder, then_total, on_total, nat_list_cmp_total, Less, Equal, below_more, Record, name_in, head_of, by_heads, LieIn, AreHeaded, common_steps, rules}
use Rattle.ks_symbols.proofs.LastOnes.{order, turned}
use Rattle.ks_symbols.proofs.Records.{range_more, range_end, lie_more}

-- a record has the head of its name
abbrev headed : {V : Type 0} → List ℕ → Record V → Type 0
headed bs r = r.head ≡ head_of (name_in bs r)

-- each number is a byte
abbrev pub AreBytes : List ℕ → Type 0
AreBytes xs = (k : ℕ) → get_or xs k 0 < 256

bytes_range : (bs : List ℕ) (a b : ℕ) → AreBytes bs → AreBytes (slice_range bs a b)
bytes_range bs a b h k = search (rules, cases_lt, get_or-take, get_or-drop, length-take, get_or_past)

-- the first place at which names differ decides
less_at : (k : ℕ) (x y : List ℕ) → ((j : ℕ) → j < k → get_or x j 0 ≡ get_or y j 0) → get_or x k 0 < get_or y k 0 → order x y ≡ Less
less_at (suc k) (a ∷ x) (b ∷ y) same lt =
    ap (λ o. ordering_then o (order x y)) (sym (nat_cmp_is a b Equal (same 0 (omega arith)))) ∙ less_at k x y (λ j h. same (suc j) (omega arith)) lt
less_at zero (a ∷ x) (b ∷ y) same lt = ap (λ o. ordering_then o (order x y)) (sym (nat_cmp_is a b Less lt))
less_at k [] (b ∷ y) same lt = refl
less_at k x [] same lt = absurd (omega arith)

-- this place or a later one
less_from : (k : ℕ) (x y : List ℕ) → ((j : ℕ) → j < k → get_or x j 0 ≡ get_or y j 0) → get_or x k 0 ≤ get_or y k 0
    → (((j : ℕ) → j < k + 1 → get_or x j 0 ≡ get_or y j 0) → order x y ≡ Less) → order x y ≡ Less
less_from k x y same le later = elim (cases_lt (get_or x k 0) (get_or y k 0)) [
  | inl lt ↦ less_at k x y same lt
  | inr ge ↦ later (below_more (λ (j : ℕ). get_or x j 0 ≡ get_or y j 0) k same (omega arith))
]

below : (x y : List ℕ) → AreBytes x → AreBytes y → head_of x < head_of y → order x y ≡ Less
below x y xs ys h =
    less_from 0 x y (λ j lt. absurd (omega arith)) (omega arith)
    (λ s1. less_from 1 x y s1 (omega arith) (λ s2. less_from 2 x y s2 (omega arith) (λ s3. less_at 3 x y s3 (omega arith))))

by_names : (x y : List ℕ) → AreBytes x → AreBytes y → ordering_then (nat_cmp (head_of x) (head_of y)) (order x y) ≡ order x y
by_names x y xs ys = grind (arith, (below x y xs ys), (below y x ys xs), (turned x y), nat_cmp_is)

module _ {V : Type 0} (bs : List ℕ) (small : AreBytes bs) where
  -- the order of records that have the heads of their names is that of the names
  order_is : (a b : Record V) → a.head ≡ head_of (name_in bs a) → b.head ≡ head_of (name_in bs b) → by_heads bs a b ≡ order (name_in bs a) (name_in bs b)
  order_is a b p q = grind (arith, by_names, bytes_range, p, q)

  pub headed_sorted : (rs : List (Record V)) → AreHeaded bs rs → IsSortedBy (λ x y. is_lt (by_heads bs x y)) rs → IsSortedByKey (name_in bs) order rs
  headed_sorted rs heads sorted = search (rules, order_is)

  tied : (x y : Record V) → x.head ≡ head_of (name_in bs x) → y.head ≡ head_of (name_in bs y)
      → ties (λ a b. is_lt (order (name_in bs a) (name_in bs b))) x y ≡ ties (λ a b. is_lt (by_heads bs a b)) x y
  tied x y p q = search (rules, order, order_is)

  pub headed_stable : (rs ss : List (Record V)) → AreHeaded bs rs → AreHeaded bs ss → IsStableBy (λ x y. is_lt (by_heads bs x y)) rs ss
      → IsStableByKey (name_in bs) order rs ss
  headed_stable rs ss old new stable x =
      let by = λ (a b : Record V). is_lt (by_heads bs a b) in
      let z : Record V = record { start = x.start; middle = x.middle; end = x.end; head = head_of (name_in bs x); value = x.value } in
      let lt = λ (a b : Record V). is_lt (order (name_in bs a) (name_in bs b)) in
      let alike = λ (y : Record V) (h : y.head ≡ head_of (name_in bs y)). tied z y refl h in
      members (ties lt x) (ties by z) alike ss new ∙ stable z ∙ sym (members (ties lt x) (ties by z) alike rs old)
    where
      members : (p q : Record V → Bool) → ((y : Record V) → y.head ≡ head_of (name_in bs y) → p y ≡ q y) → (ys : List (Record V)) → AreHeaded bs ys
          → filter p ys ≡ filter q ys
      members p q h [] all = refl
      members p q h (y ∷ ys) all = search (rules, (h y), All-head, All-tail, (members p q h ys))

pub heads_total : {V : Type 0} (bs : List ℕ) → IsTotalOrder (by_heads {V = V} bs)
heads_total {V} bs = then_total (on_total (λ (r : Record V). r.head) nat_cmp_total) (on_total (name_in bs) nat_list_cmp_total)

-- heads stay when bytes are appended, and a record may be pushed after its name
pub headed_more : {V : Type 0} (bs more : List ℕ) (rs : List (Record V)) → LieIn (length bs) rs → AreHeaded bs rs → AreHeaded (bs ++ more) rs
headed_more bs more [] lie all = All-nil _
headed_more bs more (r ∷ rs) lie all =
    All-cons (headed (bs ++ more)) r rs (All-head (headed bs) r rs all ∙ ap head_of (sym (range_more bs more r.start r.middle lie.0)))
    (headed_more bs more rs lie.2 (All-tail (headed bs) r rs all))

pub headed_line : {V : Type 0} (bs name text : List ℕ) (rs : List (Record V)) → LieIn (length bs) rs → AreHeaded bs rs
    → AreHeaded ((bs ++ name) ++ text) rs
headed_line bs name text rs lie all = grind (arith, common_steps, headed_more, lie_more, length-append)

pub headed_push : {V : Type 0} (bs name text longer : List ℕ) (rs : List (Record V)) (r : Record V) → longer ≡ (bs ++ name) ++ text → LieIn (length bs) rs
    → AreHeaded bs rs → r.start ≡ length bs → r.middle ≡ length bs + length name → r.head ≡ head_of name → AreHeaded longer (rs ++ r ∷ [])
headed_push bs name text longer rs r is lie all from mid head =
    let here : name_in ((bs ++ name) ++ text) r ≡ name = search (rules, range_more, range_end, length-append) in
    subst (λ (b : List ℕ). AreHeaded b (rs ++ r ∷ [])) (sym is)
    (All-push (headed ((bs ++ name) ++ text)) rs r (headed_line bs name text rs lie all) (head ∙ ap head_of (sym here)))
