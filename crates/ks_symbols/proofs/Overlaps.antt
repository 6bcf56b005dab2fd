-- A test of all elements, by two parts that overlap.
use Rattle.ks_symbols.proofs.Prelude.{◌≡◌, ℕ, zero, suc, ◌≤◌, List, [], ◌∷◌, Bool, refl, take, drop, arith, list_all}
use Rattle.std.specs.Prelude.{◌&&◌}

pub once : (b r s t : Bool) → r ≡ (s && t) → (b && r) ≡ ((b && s) && t)
once b r s t e = grind arith

-- the elements of a beginning, and those from a place on that is no further
pub all-overlap : {A : Type 0} (test : A → Bool) (xs : List A) (end start : ℕ) → start ≤ end
    → list_all test xs ≡ (list_all test (take end xs) && list_all test (drop start xs))
all-overlap test xs zero zero h = refl
all-overlap test xs zero (suc start) h = absurd (omega arith)
all-overlap test (x ∷ xs) (suc end) zero h = grind (arith, (all-overlap test xs end zero (omega arith)))
all-overlap test (x ∷ xs) (suc end) (suc start) h = grind (arith, (all-overlap test xs end start (omega arith)))
all-overlap test [] (suc end) zero h = refl
all-overlap test [] (suc end) (suc start) h = refl
