-- Names noted twice.
use Rattle.ks_fixdep.proofs.Prelude.{◌≡◌, ℕ, Bool, true, List, [], ◌∷◌, refl, ap, ◌∙◌, map, cond-true, list_any-append, or_cases, or_left, or_right, and_from, list_all-append, is_name, fold-append, bytes_eq-Decides, flat_map, list_any, bytes_eq, noted, all_noted, names_in, AreFoundNames, names_of, taken, bare_name, arith, common_steps}

unfoldable pub is_in : List ℕ → List (List ℕ) → Bool
is_in x xs = list_any (bytes_eq x) xs

pub in_noted : (x y : List ℕ) (xs : List (List ℕ)) → is_in x xs ≡ true → is_in x (noted xs y) ≡ true
unfolding is_in
in_noted x y xs e = grind (arith, common_steps, list_any-append, or_left)

pub noted_in : (y : List ℕ) (xs : List (List ℕ)) → is_in y (noted xs y) ≡ true
unfolding is_in
noted_in y xs = grind (arith, common_steps, list_any-append, or_left, or_right, bytes_eq-Decides)

stays_in : (x : List ℕ) (xs ys : List (List ℕ)) → is_in x xs ≡ true → is_in x (all_noted xs ys) ≡ true
stays_in x xs [] e = e
stays_in x xs (y ∷ ys) e = stays_in x (noted xs y) ys (in_noted x y xs e)

all_in : (x : List ℕ) (xs ys : List (List ℕ)) → is_in x ys ≡ true → is_in x (all_noted xs ys) ≡ true
unfolding is_in
all_in x xs [] e = absurd cc
all_in x xs (y ∷ ys) e = grind (arith, common_steps, or_cases, stays_in, noted_in, bytes_eq-Decides, (all_in x (noted xs y) ys))

-- noting a name once more is noting it last
pub noted_again : (xs zs : List (List ℕ)) (y : List ℕ) → all_noted xs (noted zs y) ≡ noted (all_noted xs zs) y
unfolding is_in
noted_again xs zs y = grind (arith, common_steps, cond-true, all_in, fold-append)

-- What was noted once already is noted as it stood.
pub all_noted_again : (xs zs ys : List (List ℕ)) → all_noted xs (all_noted zs ys) ≡ all_noted (all_noted xs zs) ys
all_noted_again xs zs [] = refl
all_noted_again xs zs (y ∷ ys) = all_noted_again xs (noted zs y) ys ∙ ap (λ n. all_noted n ys) (noted_again xs zs y)

joined : (xs : List (List ℕ)) (ts : List (List ℕ)) → all_noted xs (flat_map (λ names. names) (map names_in ts))
    ≡ all_noted xs (flat_map (λ t. map bare_name (taken t)) ts)
joined xs [] = refl
joined xs (t ∷ ts) = grind (arith, common_steps, fold-append, all_noted_again, (joined (all_noted xs (map bare_name (taken t))) ts))

-- The names of all sources are those taken of their texts, each once, by its first text and its first place there.
pub names_of-taken : (ts : List (List ℕ)) → names_of (map names_in ts) ≡ all_noted [] (flat_map (λ t. map bare_name (taken t)) ts)
names_of-taken ts = joined [] ts

-- found names, and one more
pub found-noted : (names : List (List ℕ)) (x : List ℕ) → AreFoundNames names → is_name x ≡ true → AreFoundNames (noted names x)
found-noted names x found legal = grind (arith, common_steps, list_all-append, and_from, noted_again)
