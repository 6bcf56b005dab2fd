-- Laws of the changes.
use Rattle.ks_compare.proofs.Prelude.{about, differs, as_companion, companion_differs, is_name, IsTrue, Configuration, Texts, entry_differs, FirstChangesAreNames, ap₂, ◌++◌, map-id, order, ◌≡◌, ◌↔◌, ℕ, true, false, List, [], ◌∷◌, Option, Some, option_map, refl, sym, ap, ◌∙◌, cases_Bool, false≢true, eq-eqb, eqb-true, and_parts, not-false, is_eq, nat_list_cmp_total, bytes_decides, Less, Equal, Greater, IsStrictlySortedBy, Class, class_again, is_in, name_of_symbol, tied, texts_are_of_entries, alike_is_defined_alike, Kind, compared, same_class, differ, ChangesExist, ChangesAreOne, ChangesAreLegal, NothingChanges, UnchangedIsKept, UnchangedIsDefinedAlike, rules, arith, or_from, or_left, is_eq-slice_cmp}
use Rattle.ks_output.specs.OldConfig.{HasNames, texts_of}
use Rattle.ks_symbols.proofs.Prelude.{IsConfiguration, ⊎_elim, or_cases, or_parts, not, not-true, length, module_end}
use Rattle.std.specs.Prelude.{◌==◌, ◌&&◌, ◌||◌, Bool, None, cond, is_some}
use Rattle.std.specs.FinMap as map
use Rattle.ks_compare.proofs.Merge.{Above, merged_entries, turned}
use Rattle.ks_compare.proofs.BaseLemmas.{are_with_bases, base_back, changes_by, differs_so, legal_base}

pub changes_exist : ChangesExist
changes_exist old new =
    let entries = merged_entries (λ e. e) (λ y. y) old new (map.entries old) (map.entries new) (map-id _) (map-id _) in
    let all = are_with_bases _ _ in
    (all.0, changes_by old new _ _ _ entries refl all.1)

-- a name below all of a list is not in it
not_in : (x : List ℕ) (names : List (List ℕ)) → Above x names → is_in names x ≡ false
not_in x [] h = refl
not_in x (n ∷ names) h = let apart = sym (is_eq-slice_cmp x n) ∙ ap is_eq h.0 in search (rules, or_from, apart, (not_in x names h.1))

below_too : (x y : List ℕ) (names : List (List ℕ)) → order x y ≡ Less → Above y names → Above x names
below_too x y [] p h = tt
below_too x y (n ∷ names) p h = search (rules, nat_list_cmp_total, (nat_list_cmp_total.trans x y), (below_too x y names p))

first_in : (x : List ℕ) (names : List (List ℕ)) → is_in (x ∷ names) x ≡ true
first_in x names = search (rules, or_left, bytes_decides)

-- a name that the first of another list is above is in no such list
missing : (x y : List ℕ) (a b : List (List ℕ)) → order x y ≡ Less → Above y b → is_in (x ∷ a) x ≡ is_in (y ∷ b) x → false ≡ true
missing x y a b p h e = let out = not_in x (y ∷ b) (p, below_too x y b p h) in cc (out, e, first_in x a)

-- what is in the lists after equal first names
tails : (x y : List ℕ) (a b : List (List ℕ)) → x ≡ y → Above x a → Above y b → ((z : List ℕ) → is_in (x ∷ a) z ≡ is_in (y ∷ b) z)
    → (z : List ℕ) → is_in a z ≡ is_in b z
tails x y a b here h g same z = search (rules, here, cases_Bool, order, tied, not_in, is_eq-slice_cmp)

-- rising lists of the same names are equal
rising_one : (a b : List (List ℕ)) → IsStrictlySortedBy order a → IsStrictlySortedBy order b → ((x : List ℕ) → is_in a x ≡ is_in b x) → a ≡ b
unfolding IsStrictlySortedBy
rising_one [] [] h g same = refl
rising_one [] (y ∷ b) h g same = search (rules, first_in, (same y))
rising_one (x ∷ a) [] h g same = search (rules, first_in, (same x))
rising_one (x ∷ a) (y ∷ b) h g same =
    elim (order x y) as (λ o. order x y ≡ o → x ∷ a ≡ y ∷ b) [
      | Less ↦ λ is. absurd (false≢true (missing x y a b is g.0 (same x)))
      | Equal ↦ λ is. let here = tied x y (ap is_eq is) in cc (here, rising_one a b h.1 g.1 (tails x y a b here h.0 g.0 same))
      | Greater ↦ λ is. absurd (false≢true (missing y x b a (turned x y is) h.0 (sym (same y))))
    ] refl

pub changes_are_one : ChangesAreOne
changes_are_one old new names others h g = rising_one names others h.rising g.rising (λ x. h.each x ∙ sym (g.each x))

legal_differ : (o : Option (Option Class × List ℕ)) (s : Option (Kind × List ℕ)) (P : Type 0) → ((t : Option Class × List ℕ) → o ≡ Some t → P)
    → ((t : Kind × List ℕ) → s ≡ Some t → P) → differ o (option_map compared s) ≡ true → P
legal_differ o s P f g e = grind arith

legal_entry : (old : Texts) (new : Configuration) → HasNames old → IsConfiguration new → (x : List ℕ) → entry_differs old new x ≡ true → IsTrue (is_name x)
legal_entry old new h g x e = legal_differ _ _ _ (h x) (λ s is. name_of_symbol _ x (g x s is).named) e

pub changes_are_legal : ChangesAreLegal
unfolding differs
changes_are_legal old new names h g are x e =
    ⊎_elim
    (legal_entry old new h g x)
    (λ other. let parts = and_parts _ _ other in legal_base (x ++ module_end) x (legal_entry old new h g (x ++ module_end) (differs_so (map.get old (x ++ module_end)) (option_map compared (map.get new (x ++ module_end))) parts.1)) (base_back x (not-true _ parts.0)))
    (or_cases _ _ (sym (are.each x) ∙ e))

same_class_reports : (a b : Option Class) → (same_class a b ≡ true) ↔ (a ≡ b)
same_class_reports a b = search (rules, class_again, eqb-true, eq-eqb)

alike : (a b : Option (Option Class × List ℕ)) → (differ a b ≡ false) ↔ (a ≡ b)
alike a b = search (rules, and_parts, not-false, same_class_reports)

kept_entry : (old : Texts) (new : Configuration) (x : List ℕ) → (entry_differs old new x ≡ false) ↔ (map.get old x ≡ map.get (texts_of new) x)
kept_entry old new x = search (rules, alike, texts_are_of_entries)

kept_companion : (old : Texts) (new : Configuration) (x : List ℕ)
    → (companion_differs old new x ≡ false) ↔ (as_companion (map.get old x) ≡ as_companion (map.get (texts_of new) x))
kept_companion old new x =
    let is = ap as_companion (texts_are_of_entries new x) in
    let both = alike (as_companion (map.get old x)) (as_companion (option_map compared (map.get new x))) in
    (λ e. both.0 e ∙ sym is, λ e. both.1 (e ∙ is))

pairs : {X : Type 0} (z : Bool) (p q p' q' : Option X) → p ≡ q → (z ≡ false → p' ≡ q') → ◌≡◌ {A = Option X × Option X} (p, cond z None p') (q, cond z None q')
pairs true p q p' q' e f = ap (λ r. (r, None)) e
pairs false p q p' q' e f = ap₂ (λ r t. (r, t)) e (f refl)

apart : {X : Type 0} (z : Bool) (p q : Option X) → cond z None p ≡ cond z None q → z ≡ false → p ≡ q
apart true p q e f = absurd (cc f)
apart false p q e f = e

unlike_entry : (z b : Bool) → (not z && b) ≡ false → z ≡ false → b ≡ false
unlike_entry z b e f = grind arith

none_differs : (a z b : Bool) → a ≡ false → (z ≡ false → b ≡ false) → (a || (not z && b)) ≡ false
none_differs a true b e f = grind arith
none_differs a false b e f = let one = f refl in grind (arith, one)

pub unchanged_is_kept : UnchangedIsKept
unfolding differs about
unchanged_is_kept old new x = (
  λ e.
      let parts = or_parts (entry_differs old new x) _ e in
      pairs (length x == 0) _ _ _ _ ((kept_entry old new x).0 parts.0) (λ long. (kept_companion old new (x ++ module_end)).0 (unlike_entry _ _ parts.1 long)),
  λ e.
      none_differs _ (length x == 0) _ ((kept_entry old new x).1 (ap (λ p. p.0) e))
      (λ long. (kept_companion old new (x ++ module_end)).1 (apart (length x == 0) _ _ (ap (λ p. p.1) e) long)),
)

pub nothing_changes : NothingChanges
unfolding IsStrictlySortedBy
nothing_changes settings = record { rising = tt; each = λ x. sym ((unchanged_is_kept (texts_of settings) settings x).1 refl) }

given : (o : Option (Option Class × List ℕ)) → differ None o ≡ is_some o
given None = refl
given (Some s) = refl

kept_some : (o : Option (Kind × List ℕ)) → is_some (option_map compared o) ≡ is_some o
kept_some None = refl
kept_some (Some s) = refl

pub first_changes_are_names : FirstChangesAreNames
unfolding differs
first_changes_are_names settings x =
    let y = x ++ module_end in
    let own = ap (λ (o : Option (Option Class × List ℕ)). differ o (option_map compared (map.get settings x))) (map.get-empty order x) ∙ given (option_map compared (map.get settings x))
    ∙ kept_some (map.get settings x) in
    let other = ap (λ (o : Option (Option Class × List ℕ)). differ (as_companion o) (as_companion (option_map compared (map.get settings y)))) (map.get-empty order y)
    ∙ given (as_companion (option_map compared (map.get settings y))) in
    ap₂ (λ a b. a || (not (length x == 0) && b)) own other

pub unchanged_is_defined_alike : UnchangedIsDefinedAlike
unchanged_is_defined_alike title later old new s t g h x same = search (rules, alike_is_defined_alike, unchanged_is_kept)
