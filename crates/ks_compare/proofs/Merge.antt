-- The names that differ between two lists of entries, each in rising order, by one pass over both.
use Rattle.ks_compare.proofs.Prelude.{took, rest_so_far, Run, order, first, second, is_less, two, ◌≡◌, ℕ, Bool, true, false, cond, T, List, [], ◌∷◌, ◌++◌, bytes_eq, Option, Some, None, option_map, refl, sym, ap, subst, cases_Bool, inl, inr, is_lt, is_eq, nat_list_cmp_total, Ordering, Less, Equal, Greater, find, is_sorted, below_all, AllByRecursion, AllEntries, IsStrictlySortedBy, is_eq-slice_cmp, Kind, Class, Configuration, find_below, tied, is_in, Texts, TakesFirst, compared, differ, AreChangedEntries, changed_name, OldItem, NewItem, EitherOrBoth, Left, Right, Both, map_any, merge_join_by, merge_join_by-nil, by_ordering, cons_option, filter_map, arith, rules}
use Rattle.std.proofs.Common.{map as map_list}
use Rattle.std.specs.FinMap as map

abbrev pub Above : List ℕ → List (List ℕ) → Type 0
Above z names = AllByRecursion (λ n. order z n ≡ Less) names

pub turned : (x y : List ℕ) → order x y ≡ Greater → order y x ≡ Less
turned x y e = search (rules, nat_list_cmp_total)

less : (o : Ordering) → T (is_lt o) → o ≡ Less
less o p = search rules

below_more : {X : Type 0} (z k : List ℕ) (es : List (List ℕ × X)) → order z k ≡ Less → T (below_all order k es) → T (below_all order z es)
below_more z k [] p h = tt
below_more z k (e ∷ es) p h = search (rules, two, is_less, less, first, second, (nat_list_cmp_total.trans z k), (below_more z k es p))

-- a name below the first of a rising list is below all of it
abbrev Ahead : {X : Type 0} → List ℕ → List (List ℕ × X) → Type 0
Ahead k es = T (is_sorted order es) → T (below_all order k es)

ahead : {X : Type 0} (k : List ℕ) (e : List ℕ × X) (es : List (List ℕ × X)) → order k e.0 ≡ Less → Ahead k (e ∷ es)
ahead k e es p h = search (rules, two, is_less, below_more, first)

pub keys_above : {X : Type 0} (k : List ℕ) (es : List (List ℕ × X)) → T (below_all order k es) → AllEntries (λ n _. order k n ≡ Less) es
keys_above k [] h = tt
keys_above k (e ∷ es) h = search (rules, less, first, second, (keys_above k es))

-- one more name below all, with what each of the two lists has for it
abbrev put_first : {X : Type 0} → List ℕ → Option X → List (List ℕ × X) → List (List ℕ × X)
put_first k None es = es
put_first k (Some v) es = (k, v) ∷ es

find_here : {X : Type 0} (k x : List ℕ) (o : Option X) (es : List (List ℕ × X)) → is_eq (order x k) ≡ true → T (below_all order k es)
    → find order x (put_first k o es) ≡ o
find_here k x o es same h = let none = find_below k es h in let here = tied x k same in grind (arith, none, here)

find_other : {X : Type 0} (k x : List ℕ) (o : Option X) (es : List (List ℕ × X)) → is_eq (order x k) ≡ false
    → find order x (put_first k o es) ≡ find order x es
find_other k x o es ne = grind arith

record Good (xs : List OldItem) (ys : List NewItem) (names : List (List ℕ)) : Type 0 where
  rising : IsStrictlySortedBy order names
  each : (x : List ℕ) → is_in names x ≡ differ (find order x xs) (option_map compared (find order x ys))

abbrev chosen : Bool → List ℕ → List (List ℕ) → List (List ℕ)
chosen d k names = cons_option (cond d (Some k) None) names

chosen_by : (P : List (List ℕ) → Type 0) (d : Bool) (k : List ℕ) (names : List (List ℕ)) → P (k ∷ names) → P names → P (chosen d k names)
chosen_by P d k names p h = grind arith

chosen_is : (d : Bool) (x k : List ℕ) (names : List (List ℕ)) → bytes_eq x k ≡ true → is_in names x ≡ false → is_in (chosen d k names) x ≡ d
chosen_is d x k names e h = grind arith

none_good : Good [] [] []
unfolding IsStrictlySortedBy
none_good = record { rising = tt; each = λ x. refl }

-- two lists whose elements are read as entries
module _ {A B : Type 0} (f : A → OldItem) (g : B → NewItem) where
  abbrev pub by_name : A → B → Ordering
  by_name a b = order (f a).0 (g b).0

  abbrev pub name_of : EitherOrBoth A B → Option (List ℕ)
  name_of p = changed_name (map_any f g p)

  abbrev pub names : List A → List B → List (List ℕ)
  names xs ys = filter_map name_of (merge_join_by by_name xs ys)

  -- what holds of no entries, and is kept by each step of the pass, holds of the names that it gives
  module _ (Q : List A → List B → List (List ℕ) → Type 0) (none : Q [] [] [])
      (old : (a : A) (xs : List A) (ys : List B) → Ahead (f a).0 (map_list g ys) → Q xs ys (names xs ys) → Q (a ∷ xs) ys ((f a).0 ∷ names xs ys))
      (new : (b : B) (xs : List A) (ys : List B) → Ahead (g b).0 (map_list f xs) → Q xs ys (names xs ys) → Q xs (b ∷ ys) ((g b).0 ∷ names xs ys))
      (both : (a : A) (b : B) (xs : List A) (ys : List B) → by_name a b ≡ Equal → Q xs ys (names xs ys)
      → Q (a ∷ xs) (b ∷ ys) (cons_option (name_of (Both a b)) (names xs ys))) where
    new_only : (ys : List B) → Q [] ys (names [] ys)
    new_only [] = none
    new_only (b ∷ ys) = new b [] ys (λ _. tt) (new_only ys)

    steps_from : (a : A) (xs : List A) → ((ys : List B) → Q xs ys (names xs ys)) → (ys : List B) → Q (a ∷ xs) ys (names (a ∷ xs) ys)
    steps_from a xs rest [] = subst (λ l. Q (a ∷ xs) [] ((f a).0 ∷ filter_map name_of l)) (merge_join_by-nil by_name xs) (old a xs [] (λ _. tt) (rest []))
    steps_from a xs rest (b ∷ ys) =
        elim (by_name a b) as (λ o. by_name a b ≡ o → Q (a ∷ xs) (b ∷ ys) (filter_map name_of (by_ordering o (Left a ∷ merge_join_by by_name xs (b ∷ ys))
        (Both a b ∷ merge_join_by by_name xs ys) (Right b ∷ merge_join_by by_name (a ∷ xs) ys)))) [
          | Less ↦ λ is. old a xs (b ∷ ys) (ahead (f a).0 (g b) (map_list g ys) is) (rest (b ∷ ys))
          | Equal ↦ λ is. both a b xs ys is (rest ys)
          | Greater ↦ λ is. new b (a ∷ xs) ys (ahead (g b).0 (f a) (map_list f xs) (turned (f a).0 (g b).0 is)) (steps_from a xs rest ys)
        ] refl

    by_steps : (xs : List A) (ys : List B) → Q xs ys (names xs ys)
    by_steps [] ys = new_only ys
    by_steps (a ∷ xs) ys = steps_from a xs (by_steps xs) ys

  -- each name is one of an entry
  pub every : (P : List ℕ → Type 0) (xs : List A) (ys : List B) → AllEntries (λ n _. P n) (map_list f xs) → AllEntries (λ n _. P n) (map_list g ys)
      → AllByRecursion P (names xs ys)
  every P xs ys =
      by_steps (λ xs ys ns. AllEntries (λ n _. P n) (map_list f xs) → AllEntries (λ n _. P n) (map_list g ys) → AllByRecursion P ns) (λ h k. tt)
      (λ a xs ys _ q h k. (h.0, q h.1 k)) (λ b xs ys _ q h k. (k.0, q h k.1))
      (λ a b xs ys _ q h k. chosen_by (AllByRecursion P) _ _ _ (h.0, q h.1 k.1) (q h.1 k.1)) xs ys

  one_more : (k : List ℕ) (t : Option (Option Class × List ℕ)) (s : Option (Kind × List ℕ)) (xs : List A) (ys : List B) → T (below_all order k (map_list f xs))
      → T (below_all order k (map_list g ys)) → Good (map_list f xs) (map_list g ys) (names xs ys)
      → Good (put_first k t (map_list f xs)) (put_first k s (map_list g ys)) (chosen (differ t (option_map compared s)) k (names xs ys))
  unfolding IsStrictlySortedBy
  one_more k t s xs ys h l good =
      let n = names xs ys in
      let above = every (λ x. order k x ≡ Less) xs ys (keys_above k _ h) (keys_above k _ l) in
      record {
        rising = chosen_by (IsStrictlySortedBy order) (differ t (option_map compared s)) k n (above, good.rising) good.rising;
        each = λ x. elim (cases_Bool (is_eq (order x k))) [
          | inl same ↦ search (rules, chosen_is, same, is_eq-slice_cmp, good.each, find_here, (find_here k x None _ same h), (find_here k x None _ same l))
          | inr ne ↦ search (rules, ne, is_eq-slice_cmp, good.each, find_other, (chosen_by (λ ns. is_in ns x ≡ is_in n x)))
        ];
      }

  good : (xs : List A) (ys : List B) → T (is_sorted order (map_list f xs)) → T (is_sorted order (map_list g ys)) → Good (map_list f xs) (map_list g ys) (names xs ys)
  good xs ys = by_steps (λ xs ys ns. T (is_sorted order (map_list f xs)) → T (is_sorted order (map_list g ys)) → Good (map_list f xs) (map_list g ys) ns)
      (λ h k. none_good)
      (λ a xs ys low q h k. one_more (f a).0 (Some (f a).1) None xs ys (first _ _ h) (low k) (q (second _ _ h) k))
      (λ b xs ys low q h k. one_more (g b).0 None (Some (g b).1) xs ys (low h) (first _ _ k) (q h (second _ _ k)))
      (λ a b xs ys is q h k.
      let same : (f a).0 ≡ (g b).0 = tied (f a).0 (g b).0 (ap is_eq is) in
      subst (λ (n : List ℕ). Good (map_list f (a ∷ xs)) ((n, (g b).1) ∷ map_list g ys) (cons_option (name_of (Both a b)) (names xs ys))) same
      (one_more (f a).0 (Some (f a).1) (Some (g b).1) xs ys (first _ _ h) (subst (λ (n : List ℕ). T (below_all order n (map_list g ys))) (sym same) (first _ _ k))
      (q (second _ _ h) (second _ _ k)))) xs ys

  -- the pass gives the changed entries of two maps
  pub merged_entries : (old : Texts) (new : Configuration) (xs : List A) (ys : List B) → map_list f xs ≡ map.entries old → map_list g ys ≡ map.entries new
      → AreChangedEntries old new (names xs ys)
  merged_entries old new xs ys is was =
      let all = good xs ys (rw is (map.entries_sorted old)) (rw was (map.entries_sorted new)) in
      record { rising = all.rising; each = λ x. search (rules, all.each, is, was, map.get-entries) }

-- what holds of each entry holds of those that a run has taken
fronts : {X : Type 0} (P : List ℕ → X → Type 0) (es rest : List (List ℕ × X)) → AllEntries P (es ++ rest) → AllEntries P es
fronts P [] rest h = tt
fronts P (e ∷ es) rest h = (h.0, fronts P es rest h.1)

pub taken : {A X : Type 0} (shows : A → List ℕ × X) (P : List ℕ → X → Type 0) (p : Run (TakesFirst shows)) (es : List (List ℕ × X)) → p.from ≡ es → AllEntries P es
    → AllEntries P (map_list shows p.items)
taken shows P p es is h = search (rules, fronts, (took p), rest_so_far)

later : (P : List ℕ → Type 0) (o : Option (List ℕ)) (names : List (List ℕ)) → AllByRecursion P (cons_option o names) → AllByRecursion P names
later P o names h = grind arith

-- a name that comes among others is as legal as they are
pub among : {A : Type 0} (P : List ℕ → Type 0) (h : A → Option (List ℕ)) (xs more : List A) (x : A) (n : List ℕ) → h x ≡ Some n
    → AllByRecursion P (filter_map h ((xs ++ x ∷ []) ++ more)) → P n
among P h [] more x n is all = search (rules, is)
among P h (y ∷ xs) more x n is all = search (rules, later, (among P h xs more x n is))
