-- What is read after a line.
use Rattle.ks_fixdep.proofs.Prelude.{◌≡◌, ℕ, ◌+◌, List, ◌∷◌, drop, sym, ap, ◌∙◌, drop-drop, Option, Result, Ok, option_or, ◌>>=◌}

-- what is read after what was found
abbrev pub with_found : Option ℕ → Result (Option ℕ) ℕ → Result (Option ℕ) ℕ
with_found found read = read >>= λ later. Ok (option_or later found)

pub drop-one : (n : ℕ) (xs : List (List ℕ)) (y : List ℕ) (ys : List (List ℕ)) → drop n xs ≡ y ∷ ys → drop (n + 1) xs ≡ ys
drop-one n xs y ys e = sym (drop-drop 1 n xs) ∙ ap (drop 1) e
