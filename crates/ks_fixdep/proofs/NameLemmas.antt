-- Names without their places.
use Rattle.ks_fixdep.proofs.Prelude.{All-drop, AllPass-from_list_all, list_all-from_AllPass, rules, ◌≡◌, ℕ, List, [], ◌∷◌, ◌++◌, Option, Bool, true, drop, refl, ap, map, append_assoc, list_all, map-append, NameAt, names_after, placed, taken, bare_name, list_of, borrowed_after, further, before_last_word, arith}
use Rattle.ks_fixdep.specs.Stream.{ended}

pub list_all-drop : {A : Type 0} (test : A → Bool) (n : ℕ) (xs : List A) → list_all test xs ≡ true → list_all test (drop n xs) ≡ true
list_all-drop test n xs all = search (rules, list_all-from_AllPass, All-drop, AllPass-from_list_all)

pub map-name-further : (n : ℕ) (xs : List NameAt) → map bare_name (map (further n) xs) ≡ map bare_name xs
map-name-further n [] = refl
map-name-further n (x ∷ xs) = ap (λ l. x.name ∷ l) (map-name-further n xs)

pub ended-nil : ended [] ≡ []
unfolding before_last_word names_after
ended-nil = refl

-- the names of a longer text, without their places
pub names-longer : (t p : List ℕ) (carried : Option (List ℕ)) (xs : List NameAt) → ended (t ++ p) ≡ ended t ++ borrowed_after t carried xs
    → map bare_name (ended (t ++ p)) ≡ map bare_name (ended t) ++ list_of carried ++ map bare_name xs
names-longer t p carried xs e = grind (arith, map-append, map-name-further, append_assoc)

pub names-whole : (t : List ℕ) (i : ℕ) (carried : Option (List ℕ)) → taken t ≡ ended t ++ placed i carried → map bare_name (taken t)
    ≡ map bare_name (ended t) ++ list_of carried
names-whole t i carried e = grind (arith, map-append)
