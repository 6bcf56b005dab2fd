-- What is left of lines that are put in the order of their names, where of each name the last one is kept.
use Rattle.ks_symbols.proofs.Prelude.{filter_agree, ◌≡◌, ◌⊎◌, ℕ, suc, Bool, true, false, cond, not, ◌&&◌, T, List, [], ◌∷◌, ◌++◌, Option, Some, None, unwrap_or, bytes_eq, refl, sym, ap, subst, ◌∙◌, arith, inl, inr, cases_Bool, cond-true, cond-false, nat_cmp, is_lt, is_eq, ordering_reverse, slice_cmp, nat_list_cmp_total, nat_list_eq_equiv, bytes_decides, is_eq-slice_cmp, Ordering, Less, Equal, Greater, find, is_sorted, slice_cmp-IsAntisymmetric, nat_cmp-IsAntisymmetric, below_all, filter, AllByRecursion, IsSortedByKey, IsStableByKey, or_else, NameMap, after_line, after_lines, begins_with, last_ones, rules, same_map}
use Rattle.std.proofs.Common.{map as map_list}
use Rattle.std.specs.FinMap as map

abbrev pub order : List ℕ → List ℕ → Ordering
order = slice_cmp nat_cmp

pub bytes_exact : map.IsAntisymmetric order
bytes_exact = slice_cmp-IsAntisymmetric nat_cmp-IsAntisymmetric

pub two : (a b : Bool) → T a → T b → T (a && b)
two a b p q = search rules

pub first : (a b : Bool) → T (a && b) → T a
first a b p = search rules

pub second : (a b : Bool) → T (a && b) → T b
second a b p = grind arith

pub is_less : (o : Ordering) → o ≡ Less → T (is_lt o)
is_less o e = grind arith

pub turned : (x y : List ℕ) → order y x ≡ ordering_reverse (order x y)
turned x y = nat_list_cmp_total.antisymm y x

-- the last that is said of a name
pub last_stated : {Y : Type 0} → List ℕ → List (List ℕ × Y) → Option Y
last_stated q [] = None
last_stated q (e ∷ es) = or_else (last_stated q es) (cond (bytes_eq q e.0) (Some e.1) None)

-- what the lines make of a map: the last one about a name counts
got_line : {X : Type 0} (m : NameMap X) (x : List ℕ) (o : Option X) (q : List ℕ) → map.get (after_line m x o) q ≡ cond (bytes_eq q x) o (map.get m q)
got_line m x o q = grind (arith, map.get-remove, map.get-insert, nat_list_cmp_total, is_eq-slice_cmp)

pub given_line : {X : Type 0} (m : NameMap X) (x : List ℕ) (o : Option X) (q : List ℕ) → map.get (after_line m x o) q ≡ cond (bytes_eq x q) o (map.get m q)
given_line m x o q = grind (arith, map.get-remove, map.get-insert, nat_list_cmp_total, is_eq-slice_cmp, nat_list_eq_equiv)

pub got_lines : {X : Type 0} (m : NameMap X) (es : List (List ℕ × Option X)) (q : List ℕ) → map.get (after_lines m es) q
    ≡ unwrap_or (last_stated q es) (map.get m q)
unfolding after_lines last_stated
got_lines m [] q = refl
got_lines m (e ∷ es) q = grind (arith, got_line, (got_lines (after_line m e.0 e.1) es q))

pub after_push : {X : Type 0} (m : NameMap X) (es : List (List ℕ × Option X)) (e : List ℕ × Option X)
    → after_lines m (es ++ e ∷ []) ≡ after_line (after_lines m es) e.0 e.1
unfolding after_lines
after_push m [] e = refl
after_push m (f ∷ es) e = after_push (after_line m f.0 f.1) es e

-- A stable sort keeps what is said of each name, in its order.
pub or_none : {Y : Type 0} (o : Option Y) → or_else o None ≡ o
or_none o = grind arith

stated_kept : {Y : Type 0} (q : List ℕ) (es : List (List ℕ × Y)) → last_stated q (filter (λ e. bytes_eq q e.0) es) ≡ last_stated q es
unfolding last_stated
stated_kept q [] = refl
stated_kept q (e ∷ es) = grind (arith, (stated_kept q es))

filter_shown : {X Y : Type 0} (p : Y → Bool) (f : X → Y) (xs : List X) → filter p (map_list f xs) ≡ map_list f (filter (λ x. p (f x)) xs)
filter_shown p f [] = refl
filter_shown p f (x ∷ xs) = grind (arith, (filter_shown p f xs))

some_kept : {X : Type 0} (p : X → Bool) (xs : List X) → (filter p xs ≡ []) ⊎ ((x : X) × (p x ≡ true))
some_kept p [] = inl refl
some_kept p (x ∷ xs) = search (rules, cases_Bool, cond-false, (some_kept p xs))

tie_test : (x y : List ℕ) → (not (is_lt (order x y)) && not (is_lt (order y x))) ≡ bytes_eq x y
tie_test x y = let test = is_eq-slice_cmp x y in let other = turned x y in grind (arith, test, other)

module _ {X : Type 0} (key : X → List ℕ) (xs ys : List X) (stable : IsStableByKey key order xs ys) where
  abbrev is_named : List ℕ → X → Bool
  is_named q x = bytes_eq q (key x)

  alike_at : (q : List ℕ) (r : X) → is_named q r ≡ true → filter (is_named q) ys ≡ filter (is_named q) xs
  alike_at q r is = search (rules, filter_agree, (stable r), bytes_decides, tie_test)

  named_kept : (q : List ℕ) → filter (is_named q) ys ≡ filter (is_named q) xs
  named_kept q = search (rules, some_kept, alike_at)

stated_sorted : {X Y : Type 0} (f : X → List ℕ × Y) (xs ys : List X) → IsStableByKey (λ x. (f x).0) order xs ys → (q : List ℕ)
    → last_stated q (map_list f ys) ≡ last_stated q (map_list f xs)
stated_sorted f xs ys stable q =
    let kept = named_kept (λ x. (f x).0) xs ys stable q in
    sym (stated_kept q (map_list f ys)) ∙ search (rules, filter_shown, kept) ∙ stated_kept q (map_list f xs)

-- no name is below the one before it
abbrev NotAbove : {Y : Type 0} → List ℕ → List (List ℕ × Y) → Type 0
NotAbove x [] = Unit {0}
NotAbove x (f ∷ es) = is_lt (order f.0 x) ≡ false

abbrev Rises : {Y : Type 0} → List (List ℕ × Y) → Type 0
Rises [] = Unit {0}
Rises (e ∷ es) = NotAbove e.0 es × Rises es

rises : {X Y : Type 0} (f : X → List ℕ × Y) (xs : List X) → IsSortedByKey (λ x. (f x).0) order xs → Rises (map_list f xs)
rises f [] h = tt
rises f (x ∷ []) h = (tt, tt)
rises f (x ∷ y ∷ xs) h = (h 0 x (omega arith) (omega arith), rises f (y ∷ xs) (λ k d a b. search (rules, (h (suc k) d))))

-- each name is above x
abbrev Above : {Y : Type 0} → List ℕ → List (List ℕ × Y) → Type 0
Above x es = AllByRecursion (λ e. order x e.0 ≡ Less) es

pub tied : (x y : List ℕ) → order x y ≡ Equal → x ≡ y
tied x y e = bytes_exact x y e

-- x is below y, and y is not above z
above_next : (x y z : List ℕ) → order x y ≡ Less → is_lt (order z y) ≡ false → order x z ≡ Less
above_next x y z p n = elim (at_most (order y z) (ap is_lt (sym (turned y z)) ∙ n)) [
  | inl less ↦ nat_list_cmp_total.trans x y z p less
  | inr same ↦ subst (λ (w : List ℕ). order x w ≡ Less) (tied y z same) p
]
  where
    at_most : (o : Ordering) → is_lt (ordering_reverse o) ≡ false → (o ≡ Less) ⊎ (o ≡ Equal)
    at_most Less e = inl refl
    at_most Equal e = inr refl
    at_most Greater e = absurd cc

above_more : {Y : Type 0} (x y : List ℕ) (es : List (List ℕ × Y)) → order x y ≡ Less → NotAbove y es → Rises es → Above x es
above_more x y [] p n r = tt
above_more x y (f ∷ es) p n r = let here = above_next x y f.0 p n in (here, above_more x f.0 es here r.0 r.1)

apart : {Y : Type 0} (x : List ℕ) (es : List (List ℕ × Y)) → begins_with x es ≡ false → NotAbove x es → Rises es → Above x es
apart x [] ne n r = tt
apart x (f ∷ es) ne n r = let test = is_eq-slice_cmp x f.0 in let other = turned x f.0 in search (rules, test, other, (above_more x f.0 es))

-- the last ones rise
below : {X : Type 0} (x : List ℕ) (es : List (List ℕ × Option X)) → Above x es → T (below_all order x (last_ones es))
unfolding last_ones
below x [] h = tt
below x (e ∷ es) h = search (rules, two, is_less, (below x es h.1))

last_ones_rise : {X : Type 0} (es : List (List ℕ × Option X)) → Rises es → T (is_sorted order (last_ones es))
unfolding last_ones
last_ones_rise [] r = tt
last_ones_rise (e ∷ es) r = grind (arith, two, below, apart, (last_ones_rise es r.1))

-- and have what is said last
none_above : {Y : Type 0} (q : List ℕ) (es : List (List ℕ × Y)) → Above q es → last_stated q es ≡ None
unfolding last_stated
none_above q [] h = refl
none_above q (e ∷ es) h = let apart = sym (is_eq-slice_cmp q e.0) ∙ ap is_eq h.0 in search (rules, last_stated, apart, cond-false, (none_above q es h.1))

stated_again : {Y : Type 0} (q x : List ℕ) (es : List (List ℕ × Y)) (y : Y) → begins_with x es ≡ true
    → or_else (last_stated q es) (cond (bytes_eq q x) (Some y) None) ≡ last_stated q es
unfolding last_stated
stated_again q x es y b = grind (arith, bytes_decides)

found : {X : Type 0} (q : List ℕ) (es : List (List ℕ × Option X)) → Rises es → find order q (last_ones es) ≡ unwrap_or (last_stated q es) None
unfolding last_ones last_stated
found q [] r = refl
found q (e ∷ es) r = search (rules, last_stated, stated_again, cases_Bool, none_above, apart, is_eq-slice_cmp, or_none, cond-true, cond-false, (found q es r.1))

-- Lines that are put in order by their names, stably: what is left rises, and is the map that the lines make.
pub closed_rise : {X S : Type 0} (f : X → List ℕ × Option S) (ys : List X) → IsSortedByKey (λ x. (f x).0) order ys
    → T (is_sorted order (last_ones (map_list f ys)))
closed_rise f ys sorted = search (rules, last_ones_rise, rises)

pub closed : {X S : Type 0} (f : X → List ℕ × Option S) (xs ys : List X) → IsSortedByKey (λ x. (f x).0) order ys → IsStableByKey (λ x. (f x).0) order xs ys
    → map.from_entries {R = order} (last_ones (map_list f ys)) ≡ after_lines map.empty (map_list f xs)
closed f xs ys sorted stable =
    map.same_map nat_list_cmp_total bytes_exact _ _
    (λ q. search (rules, map.get-from_entries, nat_list_cmp_total, found, rises, stated_sorted, map.get-empty, got_lines))
