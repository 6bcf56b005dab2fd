-- The names of a table as a list.
use Rattle.ks_symbols.proofs.Prelude.{◌≡◌, ◌∙◌, ℕ, true, List, [], ◌∷◌, Option, Some, None, is_some, IsTrue, refl, sym, and_parts, All, All-nil, All-cons, is_eq-slice_cmp, bytes_decides, find, is_in, is_name, is_symbol_name, Kind, NameMap, HasSymbolNames, kinds_in, rules, arith, or_left, or_right}
use Rattle.std.proofs.Common.{map as map_list}
use Rattle.std.specs.FinMap as map
use Rattle.ks_symbols.proofs.LastOnes.{order}
use Rattle.ks_symbols.proofs.Clashes.{get-kinds_in}

abbrev pub names_of : {X : Type 0} → List (List ℕ × X) → List (List ℕ)
names_of es = map_list (λ e. e.0) es

-- a name is listed exactly where it is found
listed : {X : Type 0} (x : List ℕ) (es : List (List ℕ × X)) → is_in (names_of es) x ≡ is_some (find order x es)
listed x [] = refl
listed x (e ∷ es) = grind (arith, is_eq-slice_cmp, (listed x es))

pub listed_kinds : (m : NameMap (Kind × List ℕ)) (x : List ℕ) → is_in (names_of (map.entries m)) x ≡ is_some (map.get (kinds_in m) x)
listed_kinds m x = search (rules, listed, get-kinds_in, map.get-entries)

-- ---- the names are legal

some_legal : (o : Option Kind) (P : Type 0) → ((k : Kind) → o ≡ Some k → P) → is_some o ≡ true → P
some_legal None P h is = absurd cc
some_legal (Some k) P h is = h k refl

all_legal : {X : Type 0} (es : List (List ℕ × X)) → ((x : List ℕ) → is_in (names_of es) x ≡ true → IsTrue (is_name x)) → All (λ e. IsTrue (is_name e.0)) es
all_legal [] legal = search (rules, All-nil)
all_legal (e ∷ es) legal = search (rules, All-cons, or_right, or_left, bytes_decides, (all_legal es))

pub legal_names : (kinds : NameMap Kind) (names : List (List ℕ)) → HasSymbolNames (map.get kinds)
    → ((x : List ℕ) → is_in names x ≡ is_some (map.get kinds x)) → (x : List ℕ) → is_in names x ≡ true → IsTrue (is_name x)
unfolding is_symbol_name
legal_names kinds names legal all x among =
    some_legal (map.get kinds x) (IsTrue (is_name x)) (λ k is. search (rules, (legal x k is), and_parts)) (sym (all x) ∙ among)

pub legal_kinds : (m : NameMap (Kind × List ℕ)) → HasSymbolNames (map.get (kinds_in m)) → All (λ e. IsTrue (is_name e.0)) (map.entries m)
legal_kinds m legal = all_legal (map.entries m) (legal_names (kinds_in m) (names_of (map.entries m)) legal (listed_kinds m))
