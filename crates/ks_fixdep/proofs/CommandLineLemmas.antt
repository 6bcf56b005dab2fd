-- Lines of a text.
use Rattle.ks_fixdep.proofs.Prelude.{◌≡◌, ℕ, zero, suc, ◌<◌, true, List, [], ◌∷◌, ◌++◌, length, take, drop, refl, arith, cond-true, cond-false, eqb-true, false_from_ne_true, bytes_eq, ◌==◌, ◌&&◌, slice_index, lines, common_steps, rules}
use Rattle.ks_symbols.proofs.Overlaps.{once}

-- the first LF stands at place k
pub lines-at : (xs : List ℕ) (k : ℕ) → k < length xs → ((j : ℕ) → j < k → (slice_index xs j == 10) ≡ true → ⊥) → (slice_index xs k == 10) ≡ true
    → lines xs ≡ take (suc k) xs ∷ lines (drop (suc k) xs)
unfolding lines
lines-at [] k below none here = absurd (omega arith)
lines-at (b ∷ t) zero below none here = search (rules, cond-true, eqb-true)
lines-at (b ∷ t) (suc k) below none here =
    let first = none 0 (omega arith) in
    search (rules, cond-false, false_from_ne_true, (lines-at t k (omega arith) (λ j lt. none (suc j) (omega arith)) here))

-- no LF at all
pub lines-whole : (xs : List ℕ) → 0 < length xs → ((j : ℕ) → j < length xs → (slice_index xs j == 10) ≡ true → ⊥) → lines xs ≡ xs ∷ lines []
unfolding lines
lines-whole [] some none = absurd (omega arith)
lines-whole (b ∷ []) some none = search (rules, cond-false, false_from_ne_true, (none 0))
lines-whole (b ∷ d ∷ t) some none =
    let here = none 0 (omega arith) in
    search (rules, cond-false, false_from_ne_true, (lines-whole (d ∷ t) (omega arith) (λ j lt. none (suc j) (omega arith))))

-- equality, part by part
pub prefix-eq : (part rest more : List ℕ) → bytes_eq rest (part ++ more) ≡ (bytes_eq (take (length part) rest) part && bytes_eq (drop (length part) rest) more)
prefix-eq [] rest more = refl
prefix-eq (b ∷ part) [] more = refl
prefix-eq (b ∷ part) (d ∷ rest) more = grind (arith, common_steps, once, (prefix-eq part rest more))
