-- Places that are pointed to where they stand.
use Rattle.ks_fixdep.proofs.Prelude.{Any-from_list_any, ◌≡◌, ◌<◌, ◌≤◌, ℕ, true, false, List, get_or, length, arith, nat_eq, list_any, eq-eqb, eqb-true, false_from_ne_true, list_any_at, ArePointedAt, common_steps}

stands_at : (p : ℕ) (places : List ℕ) → list_any (nat_eq p) places ≡ true → (k : ℕ) × (k < length places) × (get_or places k 0 ≡ p)
stands_at p places there = grind (arith, common_steps, eqb-true, (Any-from_list_any (nat_eq p) places there))

module _ (points places : List ℕ) (are : ArePointedAt points places) (p : ℕ) where
  pointed : list_any (nat_eq p) places ≡ true → (p < length points) × (get_or points p 0 < length places) × (get_or places (get_or points p 0) 0 ≡ p)
  pointed there = grind (arith, common_steps, stands_at)

  -- a place that does not point, that points past the places, or that points at one of them
  pub points_nowhere : length points ≤ p → list_any (nat_eq p) places ≡ false
  points_nowhere past = grind (arith, common_steps, pointed, false_from_ne_true)

  pub points_past : (at : ℕ) → get_or points p 0 ≡ at → length places ≤ at → list_any (nat_eq p) places ≡ false
  points_past at is past = grind (arith, common_steps, pointed, false_from_ne_true)

  pub points_at : (at q : ℕ) → get_or points p 0 ≡ at → at < length places → get_or places at 0 ≡ q → nat_eq q p ≡ list_any (nat_eq p) places
  points_at at q is within there = grind (arith, common_steps, eq-eqb, pointed, false_from_ne_true, list_any_at, eqb-true)
