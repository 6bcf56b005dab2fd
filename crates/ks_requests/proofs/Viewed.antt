-- A list whose elements are seen as others.
use Rattle.ks_requests.proofs.Prelude.{◌≡◌, ◌||◌, Bool, List, [], ◌∷◌, ap, list_any, map, refl}

pub list_any-map : {X Y : Type 0} (p : Y → Bool) (f : X → Y) (xs : List X) → list_any p (map f xs) ≡ list_any (λ x. p (f x)) xs
list_any-map p f [] = refl
list_any-map p f (x ∷ xs) = ap (λ (rest : Bool). p (f x) || rest) (list_any-map p f xs)
