-- Names by their places in a table.
use Rattle.ks_fixdep.proofs.Prelude.{cases_order, slice_get_cases, get_or_append_left, nat_tests, ◌≡◌, ◌<◌, ◌≤◌, ◌+◌, ℕ, Bool, true, zero, suc, List, [], ◌∷◌, ◌++◌, Some, None, Vec, refl, ap, ◌∙◌, append-nil, length, length-append, arith, slice_get, nat_eq, cons_option, find, list_all, list_any, and_parts, and_from, eq-eqb, eqb-true, lt-ltb, false_from_ne_true, filter_map-append, bytes_eq-Decides, AreFoundNames, all_noted, noted, with_place, are_within, lists_at, names_at, common_steps}
use Rattle.std.specs.Prelude.{bytes_eq}
use Rattle.ks_fixdep.proofs.OnceLemmas.{in_noted, is_in, noted_in}

-- ---- a name that stands once has one place

length-all : (seen ys : List (List ℕ)) → length (all_noted seen ys) ≤ length seen + length ys
length-all seen [] = omega arith
length-all seen (y ∷ ys) = grind (arith, common_steps, length-append, (length-all (noted seen y) ys))

-- fewer are noted where one of them was seen
fewer_seen : (seen ys : List (List ℕ)) (j : ℕ) (x : List ℕ) → is_in x seen ≡ true → slice_get ys j ≡ Some x → length (all_noted seen ys) < length seen + length ys
unfolding is_in
fewer_seen seen [] j x there is = absurd cc
fewer_seen seen (y ∷ ys) zero x there is = grind (arith, common_steps, length-all)
fewer_seen seen (y ∷ ys) (suc j) x there is = grind (arith, common_steps, length-append, in_noted, (fewer_seen (noted seen y) ys j x))

-- .. or stands twice among them
fewer_twice : (seen ys : List (List ℕ)) (i j : ℕ) (x : List ℕ) → i < j → slice_get ys i ≡ Some x → slice_get ys j ≡ Some x
    → length (all_noted seen ys) < length seen + length ys
fewer_twice seen [] i j x before first second = absurd cc
fewer_twice seen (y ∷ ys) i zero x before first second = absurd (omega (arith, before))
fewer_twice seen (y ∷ ys) zero (suc j) x before first second = grind (arith, common_steps, length-append, noted_in, (fewer_seen (noted seen y) ys j x))
fewer_twice seen (y ∷ ys) (suc i) (suc j) x before first second = grind (arith, common_steps, length-append, (fewer_twice (noted seen y) ys i j x))

pub only_place : (names : List (List ℕ)) (i j : ℕ) (x : List ℕ) → AreFoundNames names → slice_get names i ≡ Some x → slice_get names j ≡ Some x → j ≡ i
only_place names i j x found first second = grind (arith, common_steps, cases_order, (fewer_twice [] names i j x), (fewer_twice [] names j i x), (found.once))

-- what is found passes the test
pub found_passes : {X : Type 0} (test : X → Bool) (xs : List X) (x : X) → find test xs ≡ Some x → test x ≡ true
found_passes test [] x is = absurd cc
found_passes test (y ∷ xs) x is = grind (arith, common_steps, (found_passes test xs x))

-- ---- a table that gets one more name

slice_get_left : {X : Type 0} (xs ys : List X) (i : ℕ) → i < length xs → slice_get (xs ++ ys) i ≡ slice_get xs i
slice_get_left xs ys i below = grind (arith, common_steps, get_or_append_left, length-append, slice_get_cases)

-- what there was stays
module _ (names after : List (List ℕ)) (x : List ℕ) (is : after ≡ noted names x) where
  place_noted : (p : ℕ) → p < length names → (p < length after) × (slice_get after p ≡ slice_get names p)
  place_noted p below = grind (arith, common_steps, length-append, slice_get_left)

  pub places_noted : (places : List ℕ) → are_within names places ≡ true → (are_within after places ≡ true) × (names_at after places ≡ names_at names places)
  places_noted [] within = (refl, refl)
  places_noted (p ∷ places) within = grind (arith, nat_tests, (place_noted p), (places_noted places))

  pub all_noted_within : {Y : Type 0} (lists : List (Vec ℕ Y)) → list_all (λ l. are_within names l.items) lists ≡ true
      → (list_all (λ l. are_within after l.items) lists ≡ true) × (lists_at after lists ≡ lists_at names lists)
  all_noted_within [] within = (refl, refl)
  all_noted_within (l ∷ lists) within = grind (arith, (places_noted l.items), (all_noted_within lists))

-- ---- a set of places, and the names there

module _ (names : List (List ℕ)) (p : ℕ) (x : List ℕ) (is : slice_get names p ≡ Some x) (only : (j : ℕ) → slice_get names j ≡ Some x → j ≡ p) where
  same_test : (q : ℕ) (y : List ℕ) → slice_get names q ≡ Some y → nat_eq p q ≡ bytes_eq x y
  same_test q y at = grind (arith, common_steps, eq-eqb, bytes_eq-Decides, false_from_ne_true, eqb-true)

  pub any_at : (places : List ℕ) → list_any (nat_eq p) places ≡ list_any (bytes_eq x) (names_at names places)
  any_at [] = refl
  any_at (q ∷ places) = grind (arith, common_steps, false_from_ne_true, eqb-true, same_test, (any_at places))

  -- one more place is one more name
  pub at_pushed : (places : List ℕ) → names_at names (places ++ p ∷ []) ≡ names_at names places ++ x ∷ []
  at_pushed places = filter_map-append (slice_get names) places (p ∷ []) ∙ ap (λ o. names_at names places ++ cons_option o []) is

  pub at_put : (places : List ℕ) → names_at names (with_place places p) ≡ noted (names_at names places) x
  at_put places = grind (arith, common_steps, at_pushed, any_at)

-- the set has names where it had, and at one more place
pub within_put : (names : List (List ℕ)) (places : List ℕ) (p : ℕ) → are_within names places ≡ true → p < length names → are_within names (with_place places p) ≡ true
within_put names places p within below = grind (arith, common_steps, and_from, lt-ltb, and_parts)

-- .. and a place without a name adds none
pub at_none : (names : List (List ℕ)) (p : ℕ) (places : List ℕ) → slice_get names p ≡ None → names_at names (places ++ p ∷ []) ≡ names_at names places
at_none names p places none = grind (arith, common_steps, filter_map-append, append-nil)
