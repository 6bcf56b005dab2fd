-- A text is words and other bytes, and the names of a text are those of its words.
use Rattle.ks_fixdep.proofs.Prelude.{true_from_ne_false, none-some, ◌≡◌, ℕ, zero, suc, ◌+◌, ◌≤◌, ◌<◌, true, false, List, [], ◌∷◌, ◌++◌, length, take, drop, get_or, map, Option, Some, None, refl, sym, ap, ◌∙◌, arith, append-nil, length-drop, get_or-take, take-append-drop, take-take, cond_both, cond-false, cases_lt, and_parts, drop_all, drop-drop, get_or_past, length-take, map-append, length-prefix_len, list_all-from_AllPass, prefix_len_passes, prefix_len_stops, prefix_len-le-length, take_while-cons, bytes_eq-Decides, list_all, prefix_len, take_while, OccursAt, FindsNeedle, is_word_byte, is_name, prefix, begun, byte_before, name_of, name_of_word, names_after, placed, further, common_steps}
use Rattle.memchr.proofs.lemmas.MatchLemmas.{OccursAt-from_part, OccursAt-split}

-- ---- a word

-- the word that a text begins with
abbrev pub word : List ℕ → List ℕ
word t = take_while is_word_byte t

-- all its bytes are word bytes
pub word-passes : (t : List ℕ) → list_all is_word_byte (word t) ≡ true
word-passes t = grind (arith, common_steps, list_all-from_AllPass, length-prefix_len, get_or-take, prefix_len_passes)

-- and the byte after it is none
pub word-stops : (t : List ℕ) → is_word_byte (get_or t (length (word t)) 0) ≡ false
word-stops t = grind (arith, common_steps, length-prefix_len, prefix_len_stops, get_or_past, cases_lt)

pub word-split : (t : List ℕ) → word t ++ drop (length (word t)) t ≡ t
word-split t = rw (length-prefix_len, take-append-drop)

-- word bytes are lengthened by the word after them
pub word-append : (w v : List ℕ) → list_all is_word_byte w ≡ true → word (w ++ v) ≡ w ++ word v
word-append [] v all = refl
word-append (b ∷ w) v all =
    let both = and_parts (is_word_byte b) (list_all is_word_byte w) all in rw (take_while-cons is_word_byte b (w ++ v), both.0, word-append w v both.1)

-- and a byte that is none ends them
pub word-is : (w v : List ℕ) → list_all is_word_byte w ≡ true → is_word_byte (get_or v 0 0) ≡ false → word (w ++ v) ≡ w
word-is w v all stops = grind (arith, common_steps, append-nil, word-stops, word-split, (word-append w v all))

-- after `CONFIG_` the word goes on with its run
pub word-prefixed : (t : List ℕ) (k : ℕ) → OccursAt t prefix k → word (drop k t) ≡ prefix ++ word (drop (k + 7) t)
word-prefixed t k stands = ap word (OccursAt-split t prefix k stands) ∙ word-append prefix (drop (k + 7) t) refl

-- only where `CONFIG_` stands does a name begin
pub named-stands : (t x : List ℕ) (k : ℕ) → name_of_word (word (drop k t)) ≡ Some x → OccursAt t prefix k
unfolding name_of_word
named-stands t x k is =
    let w = word (drop k t) in
    let n = prefix_len is_word_byte (drop k t) in
    let same : take 7 w ≡ prefix = (bytes_eq-Decides (take 7 w) prefix).0 (true_from_ne_false _ (λ no. none-some x (sym (cond-false _ _ _ no) ∙ is))) in
    let fits : 7 ≤ n = omega (arith, simp length-take at (ap length same), length-prefix_len is_word_byte (drop k t)) in
    OccursAt-from_part t prefix k (omega (arith, prefix_len-le-length is_word_byte (drop k t), length-drop k t)) (sym (take-take 7 n (drop k t) fits) ∙ same)

unnamed : (t : List ℕ) (k : ℕ) → (OccursAt t prefix k → ⊥) → name_of_word (word (drop k t)) ≡ None
unnamed t k nowhere = grind (arith, (named-stands t))

pub nameless : name_of_word [] ≡ None
unfolding name_of_word
nameless = refl

-- ---- the names of a text

pub names_after-none : (before i : ℕ) → names_after before i [] ≡ []
unfolding names_after
names_after-none before i = refl

-- the name of the word that a text begins with, and the names of what comes after that word
pub names-first : (t : List ℕ) (before i : ℕ) → names_after before i t
    ≡ placed i (begun before (name_of_word (word t))) ++ names_after 0 (i + length (word t)) (drop (length (word t)) t)
unfolding names_after
names-first [] before i = grind (arith, common_steps, nameless, cond_both)
names-first (b ∷ t) before i = grind (arith, nameless, cond_both, (take_while-cons is_word_byte b t), (names-first t b (i + 1)))

-- the same text further on
pub names_after-further : (n before i : ℕ) (t : List ℕ) → names_after before (n + i) t ≡ map (further n) (names_after before i t)
unfolding names_after
names_after-further n before i [] = refl
names_after-further n before i (b ∷ t) = grind (arith, map-append, (names_after-further n b (i + 1) t))

-- ---- the search

-- over places where no name begins
names_after-skip : (k : ℕ) (t : List ℕ) (before i : ℕ) → ((j : ℕ) → j < k → name_of_word (word (drop j t)) ≡ None) → k ≤ length t
    → names_after before i t ≡ names_after (get_or (before ∷ t) k 0) (i + k) (drop k t)
unfolding names_after
names_after-skip zero t before i none fits = grind arith
names_after-skip (suc k) [] before i none fits = absurd (omega arith)
names_after-skip (suc k) (b ∷ t) before i none fits =
    grind (arith, cond_both, (none 0 (omega arith)), (names_after-skip k t b (i + 1) (λ j below. none (suc j) (omega arith)) (omega arith)))

pub names_after-nowhere : (t : List ℕ) (i : ℕ) → FindsNeedle t prefix 0 None → names_after 0 i t ≡ []
names_after-nowhere t i nowhere =
    let skipped = names_after-skip (length t) t 0 i (λ j below. unnamed t j (nowhere j (omega arith) (omega arith))) (omega arith) in
    grind (arith, drop_all, names_after-none, skipped)

-- one turn of the scan of what a text has from place i on
pub names_after-turn : (t rest after run : List ℕ) (i k : ℕ) (name : Option (List ℕ)) → rest ≡ drop i t → after ≡ drop (i + k + 7) t
    → FindsNeedle rest prefix 0 (Some k) → run ≡ word after → name ≡ begun (byte_before rest k) (name_of run)
    → names_after 0 i (drop i t) ≡ placed (i + k) name ++ names_after 0 (i + k + 7 + length run) (drop (i + k + 7 + length run) t)
unfolding name_of_word
names_after-turn t rest after run i k name is_rest is_after found is_run is_name =
    let skipped = names_after-skip k rest 0 i (λ j below. unnamed rest j (found.0.before j (omega arith) below)) (omega (arith, found.1.fits)) in
    let first = names-first (drop k rest) (byte_before rest k) (i + k) in
    let whole = word-prefixed rest k found.1 in
    grind (arith, drop-drop, skipped, first, whole)

-- ---- legal names

pub name_of_word-legal : (w x : List ℕ) → name_of_word w ≡ Some x → is_name x ≡ true
unfolding name_of_word name_of
name_of_word-legal w x e = grind (arith, common_steps)
