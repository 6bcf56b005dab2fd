-- What a search of a text says, and what a set of names holds.
use native.Mathlib.Omega.{arith}
use Rattle.std.proofs.Common.{◌≡◌, ◌∙◌, ◌+◌, ◌-◌, ◌≤◌, ◌<◌, ◌==◌, ℕ, suc, zero, Bool, true, false, cond, List, [], ◌∷◌, ◌++◌, ◌||◌, ◌⊎◌, min, codes, None, Some, inl, inr, length, take, drop, refl, sym, ap, subst}
use Rattle.std.proofs.lemmas.Bool.{cases_lt, false≢true}
use Rattle.std.proofs.lemmas.Option.{slice_get_cases}
use Rattle.std.proofs.lemmas.List.{get_or-take}
use Rattle.std.proofs.lemmas.Grind.{common_steps, get_or_default_zero}
use Rattle.std.proofs.lemmas.Slice.Eq.{bytes_eq-Decides}
use Rattle.std.specs.List.{Contains, filter_map, list_any}
use Rattle.std.proofs.lemmas.List.Folds.{list_any-append}
use Rattle.indexmap.specs.IndexSet.{insert_key}
use Rattle.std.proofs.Common.{Vec}
use Rattle.ks_output.proofs.Prelude.{bytes_decides, or_cases}
use Rattle.std.specs.Prelude.{◌↔◌, IsTrue, slice_get, slice_index, ⊤, Option, Result, Ok, Err, IfOk, bytes_eq}
use Rattle.memchr.specs.Find.{FindsNeedle, OccursAt, is_byte, is_byte3, places, places_from}
use Rattle.ks_hidden.specs.Words.{is_such}
use Rattle.ks_hidden.specs.Macros.{is_name, may_define}
use Rattle.ks_hidden.specs.Texts.{HasLine, HiddenLine, IsEitherAt, IsLeast, IsMacroAt, IsMarkAt, IsMarkOf, first_computed, included_macro, is_mark, lesser, line_number, makes_mark}

-- ---- the least of some numbers

least_at : (holds : ℕ → Type 0) (l n : ℕ) → l ≡ n → IsLeast holds (Some n) → IsLeast holds (Some l)
least_at holds l n same least = rw same least

-- that of one kind or of another is the lesser of both
least_of_either : (P Q : ℕ → Type 0) (r s : Option ℕ) → IsLeast P r → IsLeast Q s → IsLeast (λ k. P k ⊎ Q k) (lesser r s)
least_of_either P Q None None none neither = λ k is. elim is [
  | inl one ↦ none k one
  | inr other ↦ neither k other
]
least_of_either P Q None (Some m) none (there, before) = (
  inr there,
  λ k below is. elim is [
    | inl one ↦ none k one
    | inr other ↦ before k below other
  ],
)
least_of_either P Q (Some n) None (here, before) none = (
  inl here,
  λ k below is. elim is [
    | inl one ↦ before k below one
    | inr other ↦ none k other
  ],
)
least_of_either P Q (Some n) (Some m) (here, before) (there, others) =
    elim (cases_lt n m) [
      | inl lower ↦
          least_at (λ k. P k ⊎ Q k) (min n m) n (omega (arith, lower)) (
            inl here,
            λ k below is. elim is [
              | inl one ↦ before k below one
              | inr other ↦ others k (omega (arith, below, lower)) other
            ],
          )
      | inr reaches ↦
          least_at (λ k. P k ⊎ Q k) (min n m) m (omega (arith, reaches)) (
            inr there,
            λ k below is. elim is [
              | inl one ↦ before k (omega (arith, below, reaches)) one
              | inr other ↦ others k below other
            ],
          )
    ]

pub least_of_both : (P Q : ℕ → Type 0) (r s l : Option ℕ) → l ≡ lesser r s → IsLeast P r → IsLeast Q s → IsLeast (λ k. P k ⊎ Q k) l
least_of_both P Q r s l same one other = rw same (least_of_either P Q r s one other)

-- what is the same at each number has the same least one
pub least_alike : (P Q : ℕ → Type 0) (o : Option ℕ) → ((k : ℕ) → P k → Q k) → ((k : ℕ) → Q k → P k) → IsLeast P o → IsLeast Q o
least_alike P Q None to from none = λ k is. none k (from k is)
least_alike P Q (Some n) to from (here, before) = (to n here, λ k below is. before k below (from k is))

-- the first occurrence of a word
pub first_found : (text needle : List ℕ) (r : Option ℕ) → FindsNeedle text needle 0 r → IsLeast (OccursAt text needle) r
first_found text needle None none = λ k there. none k (omega arith) (omega (arith, there.fits)) there
first_found text needle (Some i) (first, there) = (there, λ k below at. first.before k (omega arith) below at)

-- ---- lines

reads_alike : (test : ℕ → Bool) (a b : List ℕ) (i n : ℕ) → ((j : ℕ) → j < i + n → slice_index a j ≡ slice_index b j)
    → places_from test a i n ≡ places_from test b i n
unfolding places_from
reads_alike test a b i zero alike = refl
reads_alike test a b i (suc n) alike =
    let later : places_from test a (i + 1) n ≡ places_from test b (i + 1) n = reads_alike test a b (i + 1) n (λ j below. alike j (omega (arith, below))) in
    let here : slice_index a i ≡ slice_index b i = alike i (omega arith) in
    rw (here, later) refl

head_grows : (b : Bool) (i : ℕ) (xs ys : List ℕ) → length xs ≤ length ys → length (cond b (i ∷ xs) xs) ≤ length (cond b (i ∷ ys) ys)
head_grows true i xs ys grows = omega (arith, grows)
head_grows false i xs ys grows = grows

more_places : (test : ℕ → Bool) (hay : List ℕ) (i n m : ℕ) → n ≤ m → length (places_from test hay i n) ≤ length (places_from test hay i m)
unfolding places_from
more_places test hay i zero m more = omega arith
more_places test hay i (suc n) zero more = absurd (omega (arith, more))
more_places test hay i (suc n) (suc m) more =
    head_grows (test (slice_index hay i)) i (places_from test hay (i + 1) n) (places_from test hay (i + 1) m) (more_places test hay (i + 1) n m (omega (arith, more)))

places_of_part : (test : ℕ → Bool) (text : List ℕ) (k : ℕ) → places test (take k text) ≡ places_from test text 0 (length (take k text))
places_of_part test text k =
    let all : length (take k text) - 0 ≡ length (take k text) = omega arith in
    let most : length (take k text) ≤ k = grind (arith, common_steps) in
    rw all (reads_alike test (take k text) text 0 (length (take k text)) (λ j below. get_or-take k text j 0 (omega (arith, below, most))))

pub line_grows : (text : List ℕ) (k j : ℕ) → k ≤ j → line_number text k ≤ line_number text j
unfolding line_number
line_grows text k j more =
    let part : length (take k text) ≤ length (take j text) = grind (arith, common_steps, more) in
    let first = places_of_part (is_byte 10) text k in
    let second = places_of_part (is_byte 10) text j in
    let fewer = more_places (is_byte 10) text 0 (length (take k text)) (length (take j text)) part in
    rw (first, second) (omega (arith, fewer))

none_in_line : (text : List ℕ) (holds : ℕ → Type 0) → IsLeast holds None → (n : ℕ) → HasLine text holds n → ⊥
none_in_line text holds none n (k, there, is) = none k there

none_before : (text : List ℕ) (holds : ℕ → Type 0) (k : ℕ) → ((j : ℕ) → j < k → holds j → ⊥) → (n : ℕ) → n < line_number text k → HasLine text holds n → ⊥
none_before text holds k before n below (j, there, is) =
    elim (cases_lt j k) [
      | inl lower ↦ before j lower there
      | inr reaches ↦ absurd (omega (arith, below, is, line_grows text k j reaches))
    ]

-- the first line with such a place is that of the first place
pub no_line : (text : List ℕ) (holds : ℕ → Type 0) → IsLeast holds None → IsLeast (HasLine text holds) None
no_line text holds none = none_in_line text holds none

pub first_line : (text : List ℕ) (holds : ℕ → Type 0) (k : ℕ) → IsLeast holds (Some k) → IsLeast (HasLine text holds) (Some (line_number text k))
first_line text holds k (here, before) = ((k, here, refl), none_before text holds k before)

-- what there is once is the least
only_one : (r s : Option ℕ) → r ≡ s → IsLeast (λ n. r ≡ Some n) s
only_one None None same = λ n is. absurd (grind (arith, common_steps, is))
only_one (Some n) (Some m) same = (same, λ k below is. absurd (grind (arith, common_steps, is, same, below)))
only_one None (Some m) same = absurd (grind (arith, common_steps, same))
only_one (Some n) None same = absurd (grind (arith, common_steps, same))

-- the first line that hides a file, by the first mark and the first include
pub hidden_by_both : (text : List ℕ) (mark include l : Option ℕ) → l ≡ lesser mark include → IsLeast (HasLine text (IsMarkAt text)) mark
    → include ≡ first_computed text → HiddenLine text l
hidden_by_both text mark include l same marked computed =
    least_of_both (HasLine text (IsMarkAt text)) (λ n. first_computed text ≡ Some n) mark include l same marked (only_one (first_computed text) include (sym computed))

-- ---- words

front_shorter : (front word : List ℕ) → front ≡ take (length front) word → length front ≤ length word
front_shorter front word same =
    let long : length front ≡ length (take (length front) word) = ap length same in
    grind (arith, common_steps, long)

front_reads : (front word : List ℕ) → front ≡ take (length front) word → (j : ℕ) → j < length front → slice_index word j ≡ slice_index front j
front_reads front word same j within = sym (ap (λ t. slice_index t j) same ∙ get_or-take (length front) word j 0 within)

-- where a word stands, that stands with which it begins
front_at : (text front word : List ℕ) (k : ℕ) → bytes_eq front (take (length front) word) ≡ true → OccursAt text word k → OccursAt text front k
front_at text front word k begins at =
    let same : front ≡ take (length front) word = (bytes_decides front (take (length front) word)).0 begins in
    let shorter : length front ≤ length word = front_shorter front word same in record {
      fits = omega (arith, at.fits, shorter);
      reads = λ j within. at.reads j (omega (arith, within, shorter)) ∙ front_reads front word same j within;
    }

pub either_none : (text front one other : List ℕ) → bytes_eq front (take (length front) one) ≡ true → bytes_eq front (take (length front) other) ≡ true
    → IsLeast (OccursAt text front) None → IsLeast (IsEitherAt text one other) None
either_none text front one other begins starts none k (inl at) = none k (front_at text front one k begins at)
either_none text front one other begins starts none k (inr at) = none k (front_at text front other k starts at)

pub no_macro : (text : List ℕ) → IsLeast (OccursAt text (codes "__")) None → IsLeast (IsMacroAt text) None
no_macro text none k (inl has) = either_none text (codes "__") _ _ refl refl none k has
no_macro text none k (inr (inl at)) = none k (front_at text (codes "__") _ k refl at)
no_macro text none k (inr (inr time)) = either_none text (codes "__") _ _ refl refl none k time

-- ---- places of bytes

pub head_contained : (x : ℕ) (xs : List ℕ) → Contains (x ∷ xs) x
head_contained x xs = (0, omega arith, refl)

pub tail_contains : (y : ℕ) (xs : List ℕ) (x : ℕ) → Contains xs x → Contains (y ∷ xs) x
tail_contains y xs x (k, within, is) = (suc k, omega (arith, within), is)

-- a place whose byte passes the test is one of them
with_head : (b : Bool) (i k : ℕ) (later : List ℕ) → Contains later k → Contains (cond b (i ∷ later) later) k
with_head true i k later h = tail_contains i later k h
with_head false i k later h = h

at_head : (b : Bool) (i k : ℕ) (later : List ℕ) → b ≡ true → k ≡ i → Contains (cond b (i ∷ later) later) k
at_head true i k later is same = rw same (head_contained i later)
at_head false i k later is same = absurd (false≢true is)

contained_from : (test : ℕ → Bool) (hay : List ℕ) (i n k : ℕ) → i ≤ k → k < i + n → test (slice_index hay k) ≡ true → Contains (places_from test hay i n) k
unfolding places_from
contained_from test hay i zero k low high is = absurd (omega (arith, low, high))
contained_from test hay i (suc n) k low high is =
    elim (cases_lt i k) [
      | inl lower ↦
          with_head (test (slice_index hay i)) i k (places_from test hay (i + 1) n)
          (contained_from test hay (i + 1) n k (omega (arith, lower)) (omega (arith, high)) is)
      | inr reaches ↦
          let same : k ≡ i = omega (arith, low, reaches) in
          at_head (test (slice_index hay i)) i k (places_from test hay (i + 1) n) (ap (λ j. test (slice_index hay j)) (sym same) ∙ is) same
    ]

pub contained : (test : ℕ → Bool) (hay : List ℕ) (k : ℕ) → k < length hay → test (slice_index hay k) ≡ true → Contains (places test hay) k
contained test hay k within is =
    let all : length hay - 0 ≡ length hay = omega arith in
    rw all (contained_from test hay 0 (length hay) k (omega arith) (omega (arith, within)) is)

in_tail : (x : ℕ) (xs : List ℕ) (k : ℕ) → Contains (x ∷ xs) k → (x ≡ k) ⊎ Contains xs k
in_tail x xs k (zero, within, is) = inl is
in_tail x xs k (suc i, within, is) = inr (i, omega (arith, within), is)

nothing_in_none : (k : ℕ) → Contains {X = ℕ} [] k → ⊥
nothing_in_none k (i, within, is) = omega (arith, within)

passing_head : (test : ℕ → Bool) (hay : List ℕ) (b : Bool) (i k : ℕ) (later : List ℕ) → test (slice_index hay i) ≡ b
    → (Contains later k → test (slice_index hay k) ≡ true) → Contains (cond b (i ∷ later) later) k → test (slice_index hay k) ≡ true
passing_head test hay true i k later is f h =
    elim (in_tail i later k h) [
      | inl same ↦ subst (λ j. test (slice_index hay j) ≡ true) same is
      | inr more ↦ f more
    ]
passing_head test hay false i k later is f h = f h

passing_from : (test : ℕ → Bool) (hay : List ℕ) (i n k : ℕ) → Contains (places_from test hay i n) k → test (slice_index hay k) ≡ true
unfolding places_from
passing_from test hay i zero k h = absurd (nothing_in_none k h)
passing_from test hay i (suc n) k h =
    passing_head test hay (test (slice_index hay i)) i k (places_from test hay (i + 1) n) refl (passing_from test hay (i + 1) n k) h

-- and the byte of each of them passes it
pub passing : (test : ℕ → Bool) (hay : List ℕ) (k : ℕ) → Contains (places test hay) k → test (slice_index hay k) ≡ true
passing test hay k h = passing_from test hay 0 (length hay - 0) k h

-- each is less than those that follow
abbrev pub Rises : List ℕ → Type 0
Rises [] = ⊤
Rises (x ∷ xs) = ((k : ℕ) → Contains xs k → x < k) × Rises xs

pub head_least : (x : ℕ) (xs : List ℕ) → Rises (x ∷ xs) → (k : ℕ) → k < x → Contains (x ∷ xs) k → ⊥
head_least x xs rises k below h =
    elim (in_tail x xs k h) [
      | inl same ↦ omega (arith, same, below)
      | inr later ↦ omega (arith, rises.0 k later, below)
    ]

-- what is none of them is among the others
pub others_left : (x : ℕ) (xs : List ℕ) (k : ℕ) → (x ≡ k → ⊥) → Contains (x ∷ xs) k → Contains xs k
others_left x xs k other h =
    elim (in_tail x xs k h) [
      | inl same ↦ absurd (other same)
      | inr later ↦ later
    ]

above_head : (b : Bool) (i : ℕ) (xs : List ℕ) → ((k : ℕ) → Contains xs k → i < k) → (k : ℕ) → Contains (cond b (i ∷ xs) xs) k → i ≤ k
above_head true i xs above k h =
    elim (in_tail i xs k h) [
      | inl same ↦ omega (arith, same)
      | inr later ↦ omega (arith, above k later)
    ]
above_head false i xs above k h = omega (arith, above k h)

above : (test : ℕ → Bool) (hay : List ℕ) (i n k : ℕ) → Contains (places_from test hay i n) k → i ≤ k
unfolding places_from
above test hay i zero k h = absurd (nothing_in_none k h)
above test hay i (suc n) k h =
    above_head (test (slice_index hay i)) i (places_from test hay (i + 1) n) (λ j later. omega (arith, above test hay (i + 1) n j later)) k h

rises_with : (b : Bool) (i : ℕ) (xs : List ℕ) → ((k : ℕ) → Contains xs k → i < k) → Rises xs → Rises (cond b (i ∷ xs) xs)
rises_with true i xs above rises = (above, rises)
rises_with false i xs above rises = rises

rising_from : (test : ℕ → Bool) (hay : List ℕ) (i n : ℕ) → Rises (places_from test hay i n)
unfolding places_from
rising_from test hay i zero = tt
rising_from test hay i (suc n) =
    rises_with (test (slice_index hay i)) i (places_from test hay (i + 1) n) (λ k later. omega (arith, above test hay (i + 1) n k later))
    (rising_from test hay (i + 1) n)

pub rising : (test : ℕ → Bool) (hay : List ℕ) → Rises (places test hay)
rising test hay = rising_from test hay 0 (length hay - 0)

-- ---- marks

-- what is true exactly where two texts are equal is whether they are
pub decided : (b : Bool) (x y : List ℕ) (e : Bool) → bytes_eq x y ≡ e → (IsTrue b ↔ (x ≡ y)) → b ≡ e
decided true x y true is test = refl
decided false x y false is test = refl
decided true x y false is test = absurd (false≢true (sym is ∙ (bytes_decides x y).1 (test.0 refl)))
decided false x y true is test = absurd (false≢true (test.1 ((bytes_decides x y).0 is)))

-- a mark is a byte of the text
mark_is_there : (text : List ℕ) (k : ℕ) → is_mark text k ≡ true → (b : ℕ) × (k < length text) × (slice_get text k ≡ Some b) × (slice_index text k ≡ b)
    × (makes_mark (take k text) (drop (k + 1) text) b ≡ true)
unfolding is_mark
mark_is_there text k is =
    elim (slice_get_cases text k).1 [
      | inl (b, within, at, value) ↦ (
        b,
        within,
        at,
        grind (arith, common_steps, get_or_default_zero, within, value),
        subst (λ o. is_such (makes_mark (take k text) (drop (k + 1) text)) o ≡ true) at is,
      )
      | inr (past, at) ↦ absurd (false≢true (subst (λ o. is_such (makes_mark (take k text) (drop (k + 1) text)) o ≡ true) at is))
    ]

-- one of three bytes is among their places
pub mark_contained : (a b c : ℕ) (text : List ℕ) (k : ℕ) → IsMarkOf a b c text k → Contains (places (is_byte3 a b c) text) k
mark_contained a b c text k (is, among) =
    let (here, within, at, value, made) = mark_is_there text k is in
    contained (is_byte3 a b c) text k within (ap (is_byte3 a b c) value ∙ subst (λ o. is_such (is_byte3 a b c) o ≡ true) at among)

-- and what is a mark, and among them, is such a one
pub mark_of : (a b c : ℕ) (text : List ℕ) (k : ℕ) → is_mark text k ≡ true → Contains (places (is_byte3 a b c) text) k → IsMarkOf a b c text k
mark_of a b c text k is h =
    let (here, within, at, value, made) = mark_is_there text k is in
    (is, rw at (sym (ap (is_byte3 a b c) value) ∙ passing (is_byte3 a b c) text k h))

-- each mark is one of these bytes
mark_byte : (before rest : List ℕ) (b : ℕ) (back slash dot small large returns : Bool) → (b == 92) ≡ back → (b == 47) ≡ slash → (b == 46) ≡ dot
    → (b == 98) ≡ small → (b == 66) ≡ large → (b == 13) ≡ returns → makes_mark before rest b ≡ true
    → (is_byte3 0 0 0 b || (is_byte3 47 92 13 b || is_byte3 46 98 66 b)) ≡ true
mark_byte before rest b back slash dot small large returns e1 e2 e3 e4 e5 e6 is = grind (arith, common_steps, e1, e2, e3, e4, e5, e6, is)

mark_among : (a b c : ℕ) (text : List ℕ) (k here : ℕ) → is_mark text k ≡ true → slice_get text k ≡ Some here → is_byte3 a b c here ≡ true → IsMarkOf a b c text k
mark_among a b c text k here is at among = (is, rw at among)

pub each_mark : (text : List ℕ) (k : ℕ) → IsMarkAt text k
    → IsMacroAt text k ⊎ (IsMarkOf 0 0 0 text k ⊎ (IsMarkOf 47 92 13 text k ⊎ IsMarkOf 46 98 66 text k))
each_mark text k (inl macro) = inl macro
each_mark text k (inr is) =
    let (here, within, at, value, made) = mark_is_there text k is in
    let byte = mark_byte (take k text) (drop (k + 1) text) here _ _ _ _ _ _ refl refl refl refl refl refl made in
    elim (or_cases _ _ byte) [
      | inl nul ↦ inr (inl (mark_among 0 0 0 text k here is at nul))
      | inr others ↦ elim (or_cases _ _ others) [
        | inl one ↦ inr (inr (inl (mark_among 47 92 13 text k here is at one)))
        | inr other ↦ inr (inr (inr (mark_among 46 98 66 text k here is at other)))
      ]
    ]

pub is_a_mark : (text : List ℕ) (k : ℕ) → IsMacroAt text k ⊎ (IsMarkOf 0 0 0 text k ⊎ (IsMarkOf 47 92 13 text k ⊎ IsMarkOf 46 98 66 text k)) → IsMarkAt text k
is_a_mark text k (inl macro) = inl macro
is_a_mark text k (inr (inl nul)) = inr nul.0
is_a_mark text k (inr (inr (inl one))) = inr one.0
is_a_mark text k (inr (inr (inr other))) = inr other.0

-- ---- macros

-- behind the end of a text nothing may be defined
pub none_past : (is_macro : List ℕ → Bool) (text : List ℕ) (k : ℕ) → length text ≤ k → may_define is_macro text k ≡ true → ⊥
unfolding may_define
none_past is_macro text k past is =
    elim (slice_get_cases text k).1 [
      | inl (b, within, at, value) ↦ absurd (omega (arith, within, past))
      | inr (over, at) ↦ grind (arith, common_steps, at, is)
    ]

named : (x line : List ℕ) (ls : List (List ℕ)) (o : Option (List ℕ)) → included_macro line ≡ o
    → list_any (bytes_eq x) (filter_map included_macro (line ∷ ls)) ≡ (is_name o x || list_any (bytes_eq x) (filter_map included_macro ls))
named x line ls None is = grind (arith, common_steps, is)
named x line ls (Some name) is = grind (arith, common_steps, is)

-- the macros of a line, and of those that follow it
pub macros_from : (x line : List ℕ) (ls : List (List ℕ))
    → list_any (bytes_eq x) (filter_map included_macro (line ∷ ls)) ≡ (is_name (included_macro line) x || list_any (bytes_eq x) (filter_map included_macro ls))
macros_from x line ls = named x line ls (included_macro line) refl

pub if_ok : {A E : Type 0} (P Q : A → Type 0) (r : Result A E) → ((x : A) → P x → Q x) → IfOk r P → IfOk r Q
if_ok P Q (Ok x) f p = f x p
if_ok P Q (Err e) f p = p

-- ---- sets of names

-- a text is equal to what is equal to it
pub mirrored : (x y : List ℕ) → bytes_eq x y ≡ bytes_eq y x
mirrored x y = grind (arith, common_steps, bytes_eq-Decides)

-- one text goes from those that are left into the set
pub moved : (in_old in_new here later : Bool) → in_new ≡ cond here true in_old → (in_new || later) ≡ (in_old || (here || later))
moved true in_new true later e = grind arith
moved true in_new false later e = grind arith
moved false in_new true later e = grind arith
moved false in_new false later e = grind arith

-- what passes a test is among the keys already, where an equal key is
absorbed : {V : Type 0} (eq : V → V → Bool) (test : V → Bool) → ((u w : V) → eq u w ≡ true → test u ≡ test w) → (v : V) (ks : List V)
    → list_any (eq v) ks ≡ true → (list_any test ks || test v) ≡ list_any test ks
absorbed eq test same v [] is = absurd (false≢true is)
absorbed eq test same v (k ∷ ks) is =
    elim (or_cases _ _ is) [
      | inl here ↦ let alike : test v ≡ test k = same v k here in grind (arith, alike)
      | inr later ↦ let held = absorbed eq test same v ks later in grind (arith, held)
    ]

inserted_by : {V : Type 0} (eq : V → V → Bool) (test : V → Bool) → ((u w : V) → eq u w ≡ true → test u ≡ test w) → (ks : List V) (v : V) (b : Bool)
    → list_any (eq v) ks ≡ b → list_any test (cond b ks (ks ++ v ∷ [])) ≡ (list_any test ks || test v)
inserted_by eq test same ks v true is = sym (absorbed eq test same v ks is)
inserted_by eq test same ks v false is = let all = list_any-append test ks (v ∷ []) in grind (arith, all)

-- what is among the keys after one is inserted
pub inserted : {V : Type 0} (eq : V → V → Bool) (test : V → Bool) → ((u w : V) → eq u w ≡ true → test u ≡ test w) → (ks : List V) (v : V)
    → list_any test (insert_key eq ks v) ≡ (list_any test ks || test v)
inserted eq test same ks v = inserted_by eq test same ks v (list_any (eq v) ks) refl

pub noted : {Y : Type 0} (name : List ℕ) (ks : List (Vec ℕ Y)) (v : Vec ℕ Y)
    → list_any (λ u. bytes_eq name u.items) (insert_key (λ u w. bytes_eq u.items w.items) ks v) ≡ (list_any (λ u. bytes_eq name u.items) ks || bytes_eq name v.items)
noted name ks v =
    inserted (λ u w. bytes_eq u.items w.items) (λ u. bytes_eq name u.items) (λ u w is. ap (bytes_eq name) ((bytes_decides u.items w.items).0 is)) ks v
