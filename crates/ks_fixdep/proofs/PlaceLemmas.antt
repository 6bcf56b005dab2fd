-- What is listed of a text is what is taken at its places.
use Rattle.ks_fixdep.proofs.Prelude.{cond_some, at_reads, front_fits, ◌≡◌, ℕ, zero, suc, ◌+◌, ◌-◌, ◌≤◌, ◌<◌, true, false, List, [], ◌∷◌, ◌++◌, length, drop, get_or, map, Option, Some, None, refl, sym, ap, subst, ◌∙◌, arith, inl, ⊎_elim, append-nil, length-append, length-drop, get_or-drop, drop-nil, cond-false, cases_Bool, drop-drop, Contains-append_cases, Contains-append_right, filter-append, ◌⊎◌, Contains, filter, IsStrictlyIncreasing, is_word_byte, is_name, list_all, nat_tests, and_parts, NameAt, begun, name_of, name_of_word, names_after, names_left, placed, taken, IsRun, IsTaken, ListsTaken, is_followed, before_last_word, common_steps, rules}
use Rattle.memchr.proofs.lemmas.MatchLemmas.{OccursAt-split}
use Rattle.ks_fixdep.specs.Stream.{ended}
use Rattle.ks_fixdep.specs.declared.name_iter.NameIter.{NameIter}
use Rattle.ks_fixdep.proofs.ScanLemmas.{name_of_word-legal, named-stands, nameless, word, word-is, word-passes, word-prefixed, word-split, word-stops}
use Rattle.ks_fixdep.proofs.StreamLemmas.{longer, word-before}

-- ---- the items of the list, by what stands k places further on

-- a word with this name begins there
abbrev HasName : ℕ → List ℕ → ℕ → List ℕ → Type 0
HasName before t k name = (is_word_byte (get_or (before ∷ t) k 0) ≡ false) × (name_of_word (word (drop k t)) ≡ Some name)

placed-is : (i before : ℕ) (name : Option (List ℕ)) (x : NameAt) → Contains (placed i (begun before name)) x
    → (x.place ≡ i) × (is_word_byte before ≡ false) × (name ≡ Some x.name)
placed-is i before name x is = grind (arith, common_steps)

listed-only : (t : List ℕ) (before i : ℕ) (x : NameAt) → Contains (names_after before i t) x → (k : ℕ) × (x.place ≡ i + k) × HasName before t k x.name
unfolding names_after
listed-only [] before i x (k, below, at) = absurd (omega (arith, below))
listed-only (b ∷ t) before i x is = ⊎_elim
    (λ here. let at = placed-is i before _ x here in (0, omega (arith, at.0), (at.1, at.2)))
    (λ later. let rest = listed-only t b (i + 1) x later in (suc rest.0, omega (arith, rest.1), rest.2))
    (Contains-append_cases _ _ x is)

listed-all : (t : List ℕ) (before i k : ℕ) (x : NameAt) → x.place ≡ i + k → HasName before t k x.name → Contains (names_after before i t) x
unfolding names_after
listed-all [] before i k x at has = grind (arith, common_steps, drop-nil, nameless)
listed-all (b ∷ t) before i zero x at has = grind (arith, common_steps, cond-false)
listed-all (b ∷ t) before i (suc k) x at has = search (rules, Contains-append_right, (listed-all t b (i + 1) k x (omega (arith, at)) has))

-- so the next name that is left is legal
pub next-legal : (it : NameIter) (x : NameAt) (more : List NameAt) → names_left it ≡ x ∷ more → is_name x.name ≡ true
next-legal it x more is =
    name_of_word-legal _ x.name (listed-only (drop it.next_place it.text.now) 0 it.next_place x (subst (λ l. Contains l x) (sym is) (0, omega arith, refl))).2.1

-- ---- the order

abbrev places : List NameAt → List ℕ
places xs = map (λ x. x.place) xs

rising-cons : (a : ℕ) (xs : List NameAt) → ((x : NameAt) → Contains xs x → a < x.place) → IsStrictlyIncreasing (places xs)
    → IsStrictlyIncreasing (a ∷ places xs)
rising-cons a [] low rising k below = absurd (omega (arith, below))
rising-cons a (x ∷ xs) low rising k below = let first = low x (zero, omega arith, refl) in grind (arith, common_steps)

rising-from : (t : List ℕ) (before i : ℕ) → IsStrictlyIncreasing (places (names_after before i t))
unfolding names_after
rising-from [] before i = λ k below. absurd (omega (arith, below))
rising-from (b ∷ t) before i =
    let rest = rising-from t b (i + 1) in
    let low = rising-cons i (names_after b (i + 1) t) (λ x later. let at = (listed-only t b (i + 1) x later).1 in omega (arith, at)) rest in
    elim (begun before (name_of_word (word (b ∷ t)))) as (λ name. IsStrictlyIncreasing (places (placed i name ++ names_after b (i + 1) t)))
    [ None ↦ rest | (Some y) ↦ low ]

-- ---- a place by itself

-- the run at a place is the longest there, and there is no other
run-at : (t : List ℕ) (i : ℕ) → i ≤ length t → IsRun t i (word (drop i t))
run-at t i le =
    let split = sym (word-split (drop i t)) in
    record {
      stands = record {
        fits = omega (arith, front_fits (drop i t) (word (drop i t)) _ split, length-drop i t);
        reads = at_reads 0 t (word (drop i t)) i _ split;
      };
      symbol_patterns = word-passes (drop i t);
      ends = ap is_word_byte (sym (get_or-drop i t (length (word (drop i t))) 0)) ∙ word-stops (drop i t);
    }

run-only : (t : List ℕ) (i : ℕ) (run : List ℕ) → IsRun t i run → word (drop i t) ≡ run
run-only t i run is =
    let here : i + length run + 0 ≡ i + length run = omega arith in
    ap word (OccursAt-split t run i is.stands) ∙ word-is run _ is.symbol_patterns (rw (get_or-drop (i + length run) t 0 0, here) is.ends)

-- nothing stands before the first place
begins : (t : List ℕ) (i : ℕ) → (is_word_byte (get_or (0 ∷ t) i 0) ≡ false → (i ≡ 0) ⊎ (is_word_byte (get_or t (i - 1) 0) ≡ false))
    × ((i ≡ 0) ⊎ (is_word_byte (get_or t (i - 1) 0) ≡ false) → is_word_byte (get_or (0 ∷ t) i 0) ≡ false)
begins t zero = (λ _. inl refl, λ _. refl)
begins t (suc i) = grind arith

taken-down : (t : List ℕ) (x : NameAt) → HasName 0 t x.place x.name → IsTaken t x
unfolding name_of name_of_word
taken-down t x has =
    let stands = named-stands t x.name x.place has.1 in
    let named = cond_some _ _ _ (sym (ap name_of_word (word-prefixed t x.place stands)) ∙ has.1) in
    record {
      place = record { stands = stands; begins = (begins t x.place).0 has.0 };
      run = word (drop (x.place + 7) t);
      is_run = run-at t (x.place + 7) stands.fits;
      name = sym named.1;
      legal = ap is_name (sym named.1) ∙ named.0;
    }

taken-up : (t : List ℕ) (x : NameAt) → IsTaken t x → HasName 0 t x.place x.name
unfolding name_of name_of_word
taken-up t x is = grind (arith, common_steps, begins, run-only, (ap name_of_word (word-prefixed t x.place is.place.stands)))

-- What is listed of a text is what is taken of it, by rising place.
pub lists-taken : (t : List ℕ) → ListsTaken t
lists-taken t = record {
  only = λ x is. (let listed = listed-only t 0 0 x is in let same : listed.0 ≡ x.place = omega (arith, listed.1) in taken-down t x (rw same at listed.2));
  all = λ x is. listed-all t 0 0 x.place x (omega arith) (taken-up t x is);
  rising = rising-from t 0 0;
}

-- ---- which names are ended

-- a word that is not the whole text
word-short : (t : List ℕ) → list_all is_word_byte t ≡ false → length (word t) < length t
word-short t other = grind (arith, common_steps, word-split, word-passes, length-append, append-nil, drop-nil)

-- of a rest of the text
followed : (whole t : List ℕ) (before i : ℕ) → drop i whole ≡ t
    → filter (is_followed whole) (names_after before i t) ≡ names_after before i (before_last_word t)
unfolding names_after before_last_word
followed whole [] before i is = refl
followed whole (b ∷ t) before i is =
    let rest = followed whole t b (i + 1) (sym (drop-drop 1 i whole) ∙ ap (drop 1) is) in
    let size = sym (length-drop i whole) ∙ ap length is in
    ⊎_elim
    (λ all. grind (
      arith,
      filter-append,
      nat_tests,
      is,
      size,
      rest,
      (ap length (word-is (b ∷ t) [] all refl)),
      append-nil,
      (longer [] t (and_parts (is_word_byte b) _ all).1).1,
    ))
    (λ other. grind (arith, filter-append, nat_tests, append-nil, is, size, rest, (word-short (b ∷ t) other), (word-before (b ∷ t) [] other)))
    (cases_Bool (list_all is_word_byte (b ∷ t)))

-- What is ended in a text are the names of it whose word is followed by a byte.
pub ended-followed : (t : List ℕ) → ended t ≡ filter (is_followed t) (taken t)
ended-followed t = sym (followed t t 0 0 refl)
