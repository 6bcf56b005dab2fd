-- Entries of a finite map from bytes.
use Rattle.ks_output.proofs.Prelude.{not_equal, order, first, second, ◌≡◌, ℕ, true, T, List, [], ◌∷◌, Some, None, refl, ◌∙◌, cond-false, is_eq, tied_itself, nat_list_cmp_total, Ordering, Equal, find, is_sorted, slice_cmp-IsAntisymmetric, nat_cmp-IsAntisymmetric, below_all, NameMap, rules, arith}
use Rattle.std.specs.FinMap as map

equal : (o : Ordering) → is_eq o ≡ true → o ≡ Equal
equal o p = grind arith

-- a key below all has no entry
pub find_below : {X : Type 0} (x : List ℕ) (es : List (List ℕ × X)) → T (below_all order x es) → find order x es ≡ None
find_below x [] h = refl
find_below x (e ∷ es) h = search (rules, not_equal, first, second, cond-false, (find_below x es))

pub find_first : {X : Type 0} (e : List ℕ × X) (es : List (List ℕ × X)) → find order e.0 (e ∷ es) ≡ Some e.1
find_first e es = search (rules, tied_itself, nat_list_cmp_total)

-- keys that tie are the same
pub tied : (x y : List ℕ) → is_eq (order x y) ≡ true → x ≡ y
tied x y e = search (rules, slice_cmp-IsAntisymmetric, nat_cmp-IsAntisymmetric, equal)

-- an entry after the first is one of the whole
pub find_later : {X : Type 0} (e : List ℕ × X) (es : List (List ℕ × X)) (x : List ℕ) (s : X) → T (below_all order e.0 es) → find order x es ≡ Some s
    → find order x (e ∷ es) ≡ Some s
find_later e es x s h is = let low = find_below e.0 es h in let same = tied x e.0 in grind (arith, low, same)

-- what holds of each entry in rising order
abbrev pub AllEntries : {X : Type 0} → (List ℕ → X → Type 0) → List (List ℕ × X) → Type 0
AllEntries P [] = Unit {0}
AllEntries P (e ∷ es) = P e.0 e.1 × AllEntries P es

each : {X : Type 0} (P : List ℕ → X → Type 0) (es : List (List ℕ × X)) → T (is_sorted order es) → ((x : List ℕ) (s : X) → find order x es ≡ Some s → P x s)
    → AllEntries P es
each P [] h f = tt
each P (e ∷ es) h f = search (rules, find_first, find_later, first, second, (each P es))

-- what holds of each name's value holds of each entry
pub all_entries : {X : Type 0} (P : List ℕ → X → Type 0) (m : NameMap X) → ((x : List ℕ) (s : X) → map.get m x ≡ Some s → P x s) → AllEntries P (map.entries m)
all_entries P m f = each P (map.entries m) (map.entries_sorted m) (λ x s is. f x s (map.get-entries m x ∙ is))
