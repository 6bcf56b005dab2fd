-- What stands before the first byte of a kind, and the includes that follow it.
use Rattle.std.proofs.Common.{◌≡◌, ℕ, ◌+◌, ◌==◌, Bool, true, false, not, None, Some, List, [], ◌∷◌, ◌++◌, length, drop, arith, refl, suc, cond, ap, drop-cons}
use Rattle.std.proofs.lemmas.Bool.{false_from_ne_true}
use Rattle.std.proofs.lemmas.Bool.Decides.{nat_tests}
use Rattle.std.proofs.lemmas.Grind.{common_steps}
use Rattle.std.proofs.lemmas.List.Sums.{prefix_len_is}
use Rattle.std.specs.List.{prefix_len}
use Rattle.memchr.specs.Find.{IsFirstByte, is_byte}
use Rattle.ks_hidden.specs.Includes.{included_names, names_at}

abbrev fails : (ℕ → Bool) → ℕ → Bool
fails test b = not (test b)

-- the first byte that passes ends those that do not
pub first_ends : (test : ℕ → Bool) (xs : List ℕ) (n : ℕ) → IsFirstByte test xs (Some n) → prefix_len (λ b. not (test b)) xs ≡ n
first_ends test xs n first =
    prefix_len_is (fails test) xs n 0 (omega (arith, first.0.high))
    (λ k below. ap not (false_from_ne_true _ (first.0.before k (omega arith) below)))
    (λ _. ap not first.1)

-- where none passes they are all
pub none_ends : (test : ℕ → Bool) (xs : List ℕ) → IsFirstByte test xs None → prefix_len (λ b. not (test b)) xs ≡ length xs
none_ends test xs nowhere =
    prefix_len_is (fails test) xs (length xs) 0 (omega arith)
    (λ k below. ap not (false_from_ne_true _ (nowhere k (omega arith) below)))
    (λ below. absurd (omega arith))

-- what stands before the first # is passed, byte for byte
passed_byte : (x : ℕ) (xs : List ℕ) (n : ℕ) (hash : Bool) → (x == 35) ≡ hash → included_names (drop n xs) ≡ included_names xs
    → included_names (drop (cond (not hash) (1 + n) 0) (x ∷ xs)) ≡ included_names (x ∷ xs)
passed_byte x xs n true is later = refl
passed_byte x xs n false is later =
    let more : 1 + n ≡ suc n = omega arith in
    rw more (rw is later)

-- no include stands before the first #
pub includes_ahead : (xs : List ℕ) → included_names (drop (prefix_len (λ b. not (is_byte 35 b)) xs) xs) ≡ included_names xs
includes_ahead [] = refl
includes_ahead (x ∷ xs) = passed_byte x xs (prefix_len (λ b. not (is_byte 35 b)) xs) (x == 35) refl (includes_ahead xs)

-- the includes of a text are those at its first # and those that follow it
pub includes_at : (xs : List ℕ) (n : ℕ) → IsFirstByte (is_byte 35) xs (Some n) → included_names xs ≡ names_at (drop (n + 1) xs) ++ included_names (drop (n + 1) xs)
includes_at xs n first = let ends = first_ends (is_byte 35) xs n first in let ahead = includes_ahead xs in grind (arith, common_steps, nat_tests, ends, ahead, first, drop-cons)

-- without a # there is none
pub includes_none : (xs : List ℕ) → IsFirstByte (is_byte 35) xs None → included_names xs ≡ []
includes_none xs nowhere = let ends = none_ends (is_byte 35) xs nowhere in let ahead = includes_ahead xs in grind (arith, common_steps, nat_tests, ends, ahead)
