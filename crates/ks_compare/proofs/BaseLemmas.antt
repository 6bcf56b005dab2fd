-- The names that others are about, as the names of a table.
use Rattle.ks_compare.proofs.Prelude.{differs, compared, option_map, arith, common_steps, ◌≡◌, ℕ, Bool, true, false, List, [], ◌∷◌, ◌++◌, Option, Some, None, bytes_eq, bytes_decides, refl, sym, ap, ap₂, subst, ◌∙◌, cases_Bool, inl, inr, and_parts, T, IsTrue, is_in, is_eq, order, is_eq-slice_cmp, is_sorted, find, first, second, tied, AllByRecursion, AllEntries, IsStrictlySortedBy, Less, nat_list_cmp_total, ends_so, joined, less-module, AreLegal, AreChanges, AreChangedEntries, Noted, base_of, AreNoted, is_base_of, Texts, Configuration, AreWithBases, filter, Class, changed_companions, companion_differs, as_companion, differ, entry_differs}
use Rattle.ks_symbols.proofs.Prelude.{is_name, is_word_byte, list_all-append, not, length, length-append, cond-true, cond-false, and_from, not-true, module_end, ends_with, nat_eq, eqb-false, lt-ltb, ltb-true, ne_eqb}
use Rattle.std.specs.Prelude.{◌==◌, ◌&&◌, ◌||◌, ◌-◌, ◌<◌, nat_lt, take, is_some}
use Rattle.std.specs.FinMap as map
use Rattle.ks_symbols.specs.declared.kinds.Class.TheVariants as class
use Rattle.std.proofs.Common.{map as map_list}
use Rattle.std.proofs.lemmas.Bool.{leb-true, le-leb}
use Rattle.ks_compare.proofs.Merge.{keys_above}

-- names and their bases
pub base_back : (x : List ℕ) → (length x == 0) ≡ false → base_of (x ++ module_end) ≡ Some x
base_back x long =
    let n = x ++ module_end in
    let size = length-append x module_end in
    let wide : 7 < length n = omega (arith, size, eqb-false _ _ long) in
    cond-true _ _ _ (and_from _ _ (lt-ltb _ _ wide) (ends_so x)) ∙ ap Some (sym (cond-true _ _ _ (ends_so x)) ∙ less-module x)

abbrev base_is : Option (List ℕ) → List ℕ → Bool
base_is None x = false
base_is (Some b) x = bytes_eq x b

base_some : (n b : List ℕ) → base_of n ≡ Some b → (n ≡ b ++ module_end) × ((length b == 0) ≡ false)
base_some n b e = elim (cases_Bool (nat_lt 7 (length n) && ends_with nat_eq n module_end)) [
  | inl both ↦
      let parts = and_parts _ _ both in
      let is : take (length n - 7) n ≡ b = cc (sym (cond-true _ _ _ both) ∙ e) in
      let whole = joined n parts.1 ∙ ap (λ l. l ++ module_end) (cond-true _ _ _ parts.1 ∙ is) in
      let size = ap length whole ∙ length-append b module_end in
      (whole, ne_eqb (length b) 0 (λ z. absurd (omega (arith, size, z, ltb-true 7 (length n) parts.0))))
  | inr other ↦ absurd (cc (sym (cond-false _ _ _ other) ∙ e))
]

reads : (o : Option (List ℕ)) (x : List ℕ) → base_is o x ≡ true → o ≡ Some x
reads None x e = absurd (cc e)
reads (Some b) x e = ap Some (sym ((bytes_decides x b).0 e))

abbrev is_companion_of : List ℕ → List ℕ → Bool
is_companion_of n x = not (length x == 0) && bytes_eq (x ++ module_end) n

same_by : (a b : Bool) → (a ≡ true → b ≡ true) → (b ≡ true → a ≡ true) → a ≡ b
same_by true b f g = sym (f refl)
same_by false true f g = g refl
same_by false false f g = refl

base_hits : (n x : List ℕ) → base_is (base_of n) x ≡ is_companion_of n x
base_hits n x = same_by _ _
    (λ e. let is = base_some n x (reads (base_of n) x e) in and_from _ _ (ap not is.1) ((bytes_decides (x ++ module_end) n).1 (sym is.0)))
    (λ e.
    let parts = and_parts _ _ e in
    let is = (bytes_decides (x ++ module_end) n).0 parts.1 in
    ap (λ m. base_is (base_of m) x) (sym is) ∙ ap (λ o. base_is o x) (base_back x (not-true _ parts.0)) ∙ (bytes_decides x x).1 refl)

-- a table with a name more
abbrev pub with_name : Noted → List ℕ → Noted
with_name m n = map.insert m n (tt, [])

entered : (m : Noted) (n x : List ℕ) → map.contains_key (with_name m n) x ≡ (bytes_eq x n || map.contains_key m x)
entered m n x =
    let got = map.get-insert nat_list_cmp_total m n (tt, []) x in
    let same = is_eq-slice_cmp x n in
    elim (cases_Bool (is_eq (order x n))) [
      | inl tie ↦ grind (arith, common_steps, got, tie, same)
      | inr other ↦ grind (arith, common_steps, got, other, same)
    ]

turned : (c e : Bool) → (e || c) ≡ (c || (e || false))
turned c e = grind arith

turned_long : (c z f : Bool) → ((z && f) || c) ≡ (c || (z && (f || false)))
turned_long c z f = grind arith

no_more : (c z : Bool) → c ≡ (c || (z && false))
no_more c z = grind arith

one_noted : (m : Noted) (n : List ℕ) → AreNoted m (is_in (n ∷ [])) (with_name m n)
one_noted m n x = entered m n x ∙ turned (map.contains_key m x) (bytes_eq x n)

pub base_noted : (m later : Noted) (n b : List ℕ) → base_of n ≡ Some b → later ≡ with_name m b → AreNoted m (is_base_of (n ∷ [])) later
base_noted m later n b e is x =
    ap (λ (t : Noted). map.contains_key t x) is ∙ entered m b x
    ∙ ap (λ f. f || map.contains_key m x) (ap (λ o. base_is o x) (sym e) ∙ base_hits n x)
    ∙ turned_long (map.contains_key m x) (not (length x == 0)) (bytes_eq (x ++ module_end) n)

pub no_base_noted : (m : Noted) (n : List ℕ) → base_of n ≡ None → AreNoted m (is_base_of (n ∷ [])) m
no_base_noted m n e x =
    ap (λ f. f || map.contains_key m x) (ap (λ o. base_is o x) (sym e) ∙ base_hits n x)
    ∙ turned_long (map.contains_key m x) (not (length x == 0)) (bytes_eq (x ++ module_end) n)

-- What is left to be noted, noted too, comes to all.
abbrev pub AreLeft : Noted → Noted → (List ℕ → Bool) → (List ℕ → Bool) → Type 0
AreLeft first now left all = (x : List ℕ) → (map.contains_key now x || left x) ≡ (map.contains_key first x || all x)

regroup : (c e i : Bool) → ((c || (e || false)) || i) ≡ (c || (e || i))
regroup c e i = grind arith

regroup_long : (c z f j : Bool) → ((c || (z && (f || false))) || (z && j)) ≡ (c || (z && (f || j)))
regroup_long c z f j = grind arith

pub name_left : (first m later : Noted) (n : List ℕ) (left ns : List (List ℕ)) (all : List ℕ → Bool) → left ≡ n ∷ ns → later ≡ with_name m n
    → AreLeft first m (is_in left) all → AreLeft first later (is_in ns) all
name_left first m later n left ns all cut is are x =
    ap (λ (t : Noted). map.contains_key t x || is_in ns x) is ∙ ap (λ c. c || is_in ns x) (one_noted m n x)
    ∙ regroup (map.contains_key m x) (bytes_eq x n) (is_in ns x) ∙ ap (λ l. map.contains_key m x || is_in l x) (sym cut) ∙ are x

pub base_left : (first m later : Noted) (n : List ℕ) (left ns : List (List ℕ)) (all : List ℕ → Bool) → left ≡ n ∷ ns → AreNoted m (is_base_of (n ∷ [])) later
    → AreLeft first m (is_base_of left) all → AreLeft first later (is_base_of ns) all
base_left first m later n left ns all cut noted are x =
    ap (λ c. c || is_base_of ns x) (noted x)
    ∙ regroup_long (map.contains_key m x) (not (length x == 0)) (bytes_eq (x ++ module_end) n) (is_in ns (x ++ module_end))
    ∙ ap (λ l. map.contains_key m x || is_base_of l x) (sym cut) ∙ are x

-- the names of a table
names_above : {X : Type 0} (z : List ℕ) (es : List (List ℕ × X)) → AllEntries (λ n _. order z n ≡ Less) es → AllByRecursion (λ n. order z n ≡ Less) (map_list (λ e. e.0) es)
names_above z [] h = tt
names_above z (e ∷ es) h = (h.0, names_above z es h.1)

rising_names : {X : Type 0} (es : List (List ℕ × X)) → T (is_sorted order es) → IsStrictlySortedBy order (map_list (λ e. e.0) es)
unfolding IsStrictlySortedBy
rising_names [] h = tt
rising_names (e ∷ es) h = (names_above e.0 es (keys_above e.0 es (first _ _ h)), rising_names es (second _ _ h))

in_names : {X : Type 0} (es : List (List ℕ × X)) (x : List ℕ) → is_in (map_list (λ e. e.0) es) x ≡ is_some (find order x es)
in_names [] x = refl
in_names (e ∷ es) x =
    let again = in_names es x in
    let same = is_eq-slice_cmp x e.0 in
    elim (cases_Bool (is_eq (order x e.0))) [
      | inl tie ↦ grind (arith, common_steps, again, tie, same)
      | inr other ↦ grind (arith, common_steps, again, other, same)
    ]

pub with_bases_by : (names companions all : List (List ℕ)) (before middle table : Noted) → before ≡ map.empty → AreNoted before (is_in names) middle
    → AreNoted middle (is_base_of companions) table → all ≡ map_list (λ e. e.0) (map.entries table) → AreWithBases names companions all
with_bases_by names companions all before middle table empty front is listed = record {
  rising = subst (IsStrictlySortedBy order) (sym listed) (rising_names (map.entries table) (map.entries_sorted table));
  each = λ x. ap (λ l. is_in l x) listed ∙ in_names (map.entries table) x ∙ ap is_some (sym (map.get-entries table x)) ∙ is x
      ∙ ap (λ c. c || is_base_of companions x) (front x ∙ ap (λ (t : Noted). map.contains_key t x || is_in names x) empty ∙ ap (λ o. is_some o || is_in names x) (map.get-empty order x));
}

-- there are such names
with_all : Noted → List (List ℕ) → Noted
with_all m [] = m
with_all m (n ∷ ns) = with_all (with_name m n) ns

nothing : (c : Bool) → c ≡ (c || false)
nothing c = grind arith

turn : (c e i : Bool) → ((e || c) || i) ≡ (c || (e || i))
turn c e i = grind arith

all_named : (m : Noted) (ns : List (List ℕ)) → AreNoted m (is_in ns) (with_all m ns)
unfolding with_all
all_named m [] x = nothing (map.contains_key m x)
all_named m (n ∷ ns) x =
    all_named (with_name m n) ns x ∙ ap (λ a. a || is_in ns x) (entered m n x) ∙ turn (map.contains_key m x) (bytes_eq x n) (is_in ns x)

one_base : (z f j : Bool) → ((z && f) || (z && j)) ≡ (z && (f || j))
one_base z f j = grind arith

no_base : (z : Bool) → false ≡ (z && false)
no_base z = grind arith

more_bases : (n : List ℕ) (ns bases : List (List ℕ)) (o : Option (List ℕ)) → base_of n ≡ o → ((x : List ℕ) → is_in bases x ≡ is_base_of ns x)
    → (all : List (List ℕ)) × ((x : List ℕ) → is_in all x ≡ is_base_of (n ∷ ns) x)
more_bases n ns bases None e are = (
  bases,
  λ x.
      ap (λ f. f || is_in bases x) (ap (λ o. base_is o x) (sym e) ∙ base_hits n x) ∙ ap (λ j. is_companion_of n x || j) (are x)
      ∙ one_base (not (length x == 0)) (bytes_eq (x ++ module_end) n) (is_in ns (x ++ module_end)),
)
more_bases n ns bases (Some b) e are = (
  b ∷ bases,
  λ x.
      ap (λ f. f || is_in bases x) (ap (λ o. base_is o x) (sym e) ∙ base_hits n x) ∙ ap (λ j. is_companion_of n x || j) (are x)
      ∙ one_base (not (length x == 0)) (bytes_eq (x ++ module_end) n) (is_in ns (x ++ module_end)),
)

bases_of : (ns : List (List ℕ)) → (all : List (List ℕ)) × ((x : List ℕ) → is_in all x ≡ is_base_of ns x)
bases_of [] = ([], λ x. no_base (not (length x == 0)))
bases_of (n ∷ ns) = let rest = bases_of ns in more_bases n ns rest.0 (base_of n) refl rest.1

pub are_with_bases : (names companions : List (List ℕ)) → (all : List (List ℕ)) × AreWithBases names companions all
are_with_bases names companions =
    let bases = bases_of companions in
    let named = with_all map.empty names in (
      _,
      with_bases_by names companions _ map.empty named (with_all named bases.0) refl (all_named map.empty names)
          (λ x. all_named named bases.0 x ∙ ap (λ f. map.contains_key named x || f) (bases.1 x)) refl,
    )

-- the changed companions among the changed names
and_none : (a : Bool) → false ≡ (a && false)
and_none a = grind arith

implied : (a b : Bool) → (a ≡ true → b ≡ true) → ((true && a) && b) ≡ a
implied true b f = f refl
implied false b f = refl

where_long : (z a b : Bool) → (z ≡ false → a ≡ b) → (not z && a) ≡ (not z && b)
where_long true a b f = refl
where_long false a b f = f refl

in_filtered : (p : List ℕ → Bool) (ns : List (List ℕ)) (y : List ℕ) → is_in (filter p ns) y ≡ (p y && is_in ns y)
in_filtered p [] y = and_none (p y)
in_filtered p (n ∷ ns) y =
    let again = in_filtered p ns y in
    elim (cases_Bool (bytes_eq y n)) [
      | inl same ↦ let alike = ap p ((bytes_decides y n).0 same) in grind (arith, again, same, alike)
      | inr other ↦ grind (arith, again, other)
    ]

pub differs_so : (a b : Option (Option Class × List ℕ)) → differ (as_companion a) (as_companion b) ≡ true → differ a b ≡ true
differs_so None b e = grind (arith, e)
differs_so (Some t) None e = refl
differs_so (Some (Some class.Flag, w)) (Some (Some class.Flag, v)) e = absurd (cc e)
differs_so (Some (Some class.Flag, w)) (Some (k, v)) e = refl
differs_so (Some (k, w)) (Some (Some class.Flag, v)) e = refl
differs_so (Some t) (Some u) e = e

changed_so : (old : Texts) (new : Configuration) (names : List (List ℕ)) (x : List ℕ) → AreChangedEntries old new names → (length x == 0) ≡ false
    → is_in (changed_companions old new names) (x ++ module_end) ≡ companion_differs old new (x ++ module_end)
changed_so old new names x are long =
    let y = x ++ module_end in
    in_filtered _ names y ∙ ap₂ (λ a b. a && b) (ap (λ o. is_some o && companion_differs old new y) (base_back x long)) (are.each y)
    ∙ implied (companion_differs old new y) (entry_differs old new y) (differs_so (map.get old y) (option_map compared (map.get new y)))

-- the changes, by the changed entries
pub changes_by : (old : Texts) (new : Configuration) (names companions all : List (List ℕ)) → AreChangedEntries old new names → companions ≡ changed_companions old new names
    → AreWithBases names companions all → AreChanges old new all
unfolding differs
changes_by old new names companions all are these is = record {
  rising = is.rising;
  each = λ x. is.each x ∙ ap₂ (λ a b. a || b) (are.each x) (where_long (length x == 0) _ _ (λ long. ap (λ cs. is_in cs (x ++ module_end)) these ∙ changed_so old new names x are long));
}

pub changes_alone : (old : Texts) (new : Configuration) (names companions : List (List ℕ)) → AreChangedEntries old new names → companions ≡ changed_companions old new names → companions ≡ []
    → AreChanges old new names
changes_alone old new names companions are these none =
    changes_by old new names companions names are these (record { rising = are.rising; each = λ x. sym (ap (λ cs. is_in names x || (not (length x == 0) && is_in cs (x ++ module_end))) none ∙ sym (no_more _ _)) })

-- the base of a legal name is legal
pub legal_base : (n b : List ℕ) → is_name n ≡ true → base_of n ≡ Some b → is_name b ≡ true
unfolding is_name
legal_base n b h e =
    let is = base_some n b e in
    let whole = and_parts _ _ (ap is_name (sym is.0) ∙ h) in
    let size = length-append b module_end in
    let short = leb-true (length (b ++ module_end)) 128 (and_parts _ _ whole.0).1 in
    let words = and_parts _ _ (sym (list_all-append is_word_byte b module_end) ∙ whole.1) in
    and_from _ _ (and_from _ _ (ap not is.1) (le-leb (length b) 128 (omega (arith, size, short)))) words.0

pub none_legal : (m : Noted) → m ≡ map.empty → AreLegal m
none_legal m empty x s is = absurd (cc (sym (map.get-empty order x) ∙ ap (λ (t : Noted). map.get t x) (sym empty) ∙ is))

one_legal : (m : Noted) (n : List ℕ) → IsTrue (is_name n) → AreLegal m → AreLegal (with_name m n)
one_legal m n h are x s is =
    let got = map.get-insert nat_list_cmp_total m n (tt, []) x in
    elim (cases_Bool (is_eq (order x n))) [
      | inl tie ↦ ap is_name (tied x n tie) ∙ h
      | inr other ↦ are x s (sym (cond-false _ _ _ other) ∙ sym got ∙ is)
    ]

pub name_legal : (m later : Noted) (n : List ℕ) → IsTrue (is_name n) → later ≡ with_name m n → AreLegal m → AreLegal later
name_legal m later n h is are = subst AreLegal (sym is) (one_legal m n h are)

pub base_legal : (m later : Noted) (n b : List ℕ) → IsTrue (is_name n) → base_of n ≡ Some b → later ≡ with_name m b → AreLegal m → AreLegal later
base_legal m later n b h e is are = subst AreLegal (sym is) (one_legal m b (legal_base n b h e) are)
