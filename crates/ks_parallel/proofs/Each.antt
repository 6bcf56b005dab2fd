-- What holds of each thing of a process, and of each of all of them.
use Rattle.ks_parallel.proofs.Prelude.{ℕ, List, [], ◌∷◌, nat_eq, refl, subst, cond-true, eqb-true, eq-eqb, own, EachOf, rules}

abbrev pub Each : {A : Type 0} → (A → Type 0) → List A → Type 0
Each P [] = Unit {0}
Each P (x ∷ xs) = P x × Each P xs

pub each_own : {A : Type 0} (P : ℕ → A → Type 0) (i : ℕ) (xs : List (ℕ × A)) → EachOf P xs → Each (P i) (own i xs)
each_own P i [] each = tt
each_own P i (x ∷ xs) each = search (rules, eqb-true, (each_own P i xs each.1))

-- the first thing is its process's own first one, ..
pub first_own : {A : Type 0} (Q : List A → Type 0) (x : ℕ × A) (xs : List (ℕ × A)) → Q (own x.0 (x ∷ xs)) → Q (x.1 ∷ own x.0 xs)
first_own Q x xs whole = subst Q (cond-true (nat_eq x.0 x.0) _ _ (eq-eqb x.0 x.0 refl)) whole

pub each_all : {A : Type 0} (P : ℕ → A → Type 0) (xs : List (ℕ × A)) → ((i : ℕ) → Each (P i) (own i xs)) → EachOf P xs
each_all P [] each = tt
each_all P (x ∷ xs) each = ((first_own (λ ys. Each (P x.0) ys) x xs (each x.0)).0, each_all P xs (λ i. let here = each i in search rules))
