-- What is found among more rows.
use Rattle.std.proofs.Common.{◌≡◌, ◌++◌, ◌+◌, ◌<◌, ℕ, Bool, true, false, List, ◌∷◌, Some, None, ap, ap₂, arith, drop, get_or, length, map, refl, suc, sym, take, ◌∙◌}
use Rattle.std.proofs.lemmas.Grind.{common_steps}
use Rattle.std.proofs.Math.Seq.{drop-cons}
use Rattle.std.proofs.lemmas.List.{map-append, map_more, take-append-drop}
use Rattle.std.proofs.lemmas.List.Folds.{find-append}
use Rattle.std.specs.List.{find}
use Rattle.std.specs.Option.{option_or}

-- the first one that is found
pub found_next : {A X : Type 0} (test : X → Bool) (g : A → X) (xs : List A) (i : ℕ) (d : A) → i < length xs → find test (map g (take i xs)) ≡ None
    → test (g (get_or xs i d)) ≡ true → Some (g (get_or xs i d)) ≡ find test (map g xs)
found_next {A} {X} test g xs i d lt none passes =
    let parts : map g (take i xs) ++ (g (get_or xs i d) ∷ map g (drop (suc i) xs)) ≡ map g xs =
    ap (λ rest. map g (take i xs) ++ map g rest) (sym (drop-cons xs i d lt)) ∙ sym (map-append g (take i xs) (drop i xs))
    ∙ ap (map g) (take-append-drop i xs) in
    let after : find test (g (get_or xs i d) ∷ map g (drop (suc i) xs)) ≡ Some (g (get_or xs i d)) = rw passes refl in
    sym (ap (find test) (sym parts) ∙ find-append test (map g (take i xs)) _ ∙ ap₂ option_or none after)

-- one more that is passed over
pub passed_next : {A X : Type 0} (test : X → Bool) (g : A → X) (xs : List A) (i : ℕ) (d : A) → i < length xs → find test (map g (take i xs)) ≡ None
    → test (g (get_or xs i d)) ≡ false → find test (map g (take (i + 1) xs)) ≡ None
passed_next test g xs i d lt none fails = grind (arith, common_steps, map_more, find-append)
