-- The word that ends a text, and the names of a text that comes in pieces.
use Rattle.ks_fixdep.proofs.Prelude.{get_or-append_right, take_at, PiecesGiveTheWhole, ◌≡◌, ℕ, zero, suc, ◌+◌, ◌-◌, ◌≤◌, ◌<◌, true, false, List, [], ◌∷◌, ◌++◌, length, take, drop, get_or, Some, None, refl, sym, ap, ◌∙◌, arith, ⊎_elim, append_assoc, append-nil, length-append, drop-append-add, length-drop, length-take, nat_tests, cond_both, cond-true, cond-false, cases_Bool, false≢true, and_right, drop_all, drop-nil, length-prefix_len, prefix_len-le-length, list_all-append, list_all_at, take_while-cons, flat_map, list_all, is_word_byte, without_module, NameAt, name_of, name_of_word, names_after, placed, taken, BorrowedInTurn, joined, last_word, before_last_word, within, kept, lengthened, kept_name, borrowed_after, common_steps}
use Rattle.ks_fixdep.specs.Stream.{ended}
use Rattle.ks_fixdep.proofs.NameLemmas.{ended-nil}
use Rattle.ks_fixdep.proofs.RunLemmas.{legal-length}
use Rattle.ks_fixdep.proofs.ScanLemmas.{word, word-append, word-split, word-stops, names-first, names_after-none, names_after-further}

-- ---- a text is what stands before its last word, and that word

pub split : (t : List ℕ) → before_last_word t ++ last_word t ≡ t
unfolding last_word before_last_word
split [] = refl
split (b ∷ t) = grind (arith, common_steps, (split t))

-- as slices of the text
pub last_word-at : (t : List ℕ) (n : ℕ) → n ≤ length t → list_all is_word_byte (drop n t) ≡ true → (0 < n → is_word_byte (get_or t (n - 1) 0) ≡ false)
    → last_word t ≡ drop n t
unfolding last_word
last_word-at [] n le all stop = sym (drop-nil n)
last_word-at (b ∷ t) zero le all stop = cond-true _ _ _ all
last_word-at (b ∷ t) (suc n) le all stop =
    let back : suc n - 1 ≡ n = omega arith in
    let here = rw back at (stop (omega arith)) in
    cond-false _ _ _ (list_all_at is_word_byte (b ∷ t) n 0 (omega arith) here)
    ∙ last_word-at t n (omega arith) all (λ some. ap is_word_byte (sym (get_or-append_right (b ∷ []) t 1 n 0 refl some)) ∙ here)

-- more word bytes lengthen that word
pub longer : (t p : List ℕ) → list_all is_word_byte p ≡ true → (last_word (t ++ p) ≡ last_word t ++ p) × (before_last_word (t ++ p) ≡ before_last_word t)
unfolding last_word before_last_word
longer [] [] all = (refl, refl)
longer [] (c ∷ p) all = (cond-true _ _ _ all, cond-true _ _ _ all)
longer (b ∷ t) p all = grind (arith, list_all-append, (longer t p all))

-- and where another byte comes, the word begins after it
fresh : (t p : List ℕ) → list_all is_word_byte p ≡ false → (last_word (t ++ p) ≡ last_word p) × (before_last_word (t ++ p) ≡ t ++ before_last_word p)
unfolding last_word before_last_word
fresh [] p other = (refl, refl)
fresh (b ∷ t) p other = grind (arith, common_steps, list_all-append, and_right, cond-false, (fresh t p other))

-- a text that is not one word begins with the same word as what stands before its last one
pub word-before : (t q : List ℕ) → list_all is_word_byte t ≡ false → word (t ++ q) ≡ word (before_last_word t)
unfolding before_last_word
word-before [] q other = absurd (false≢true (sym other))
word-before (b ∷ t) q other =
    grind (arith, (take_while-cons is_word_byte b (t ++ q)), (take_while-cons is_word_byte b (before_last_word t)), (word-before t q))

-- ---- what is kept of a text

-- a word over 142 bytes has no name
pub name_of_word-long : (w : List ℕ) → 142 < length w → name_of_word w ≡ None
unfolding name_of_word name_of
name_of_word-long w long = grind (arith, cond_both, length-take, length-drop, (legal-length (without_module (drop 7 w))))

pub within-lengthened : (w p : List ℕ) → lengthened (within w) p ≡ within (w ++ p)
within-lengthened w p = grind (arith, nat_tests, length-append)

-- ---- what is borrowed

-- the names of a text and more: those before its last word, that of this word with the word bytes after it, and those after these
names-append : (t q : List ℕ) (before i : ℕ) → list_all is_word_byte (before ∷ t) ≡ false
    → names_after before i (t ++ q) ≡ names_after before i (before_last_word t)
    ++ (placed (i + length (before_last_word t)) (name_of_word (last_word t ++ word q))
    ++ names_after 0 (i + (length t + length (word q))) (drop (length (word q)) q))
unfolding last_word before_last_word names_after
names-append [] q before i other = grind (arith, (names-first q before i))
names-append (b ∷ t) q before i other = ⊎_elim
    (λ all. grind (arith, length-append, drop-append-add, (names-first (b ∷ (t ++ q)) before i), (word-append (b ∷ t) q all)))
    (λ more. grind (arith, append_assoc, (word-before (b ∷ t) q more), (names-append t q b (i + 1) more)))
    (cases_Bool (list_all is_word_byte (b ∷ t)))

-- so they are those that are ended in the text, and what is borrowed after it
pub taken-append : (t q : List ℕ) → taken (t ++ q)
    ≡ ended t ++ borrowed_after t (kept_name (lengthened (kept t) (word q))) (names_after 0 (length (word q)) (drop (length (word q)) q))
taken-append t q =
    grind (
      arith,
      within-lengthened,
      nat_tests,
      name_of_word-long,
      (names-append t q 0 0 refl),
      (names_after-further (length t) 0 (length (word q)) (drop (length (word q)) q)),
    )

-- at the end of a text
pub taken-finish : (t : List ℕ) → taken t ≡ ended t ++ placed (length (before_last_word t)) (kept_name (kept t))
taken-finish t = simp (append-nil, within-lengthened, names_after-none) at (taken-append t [])

-- What `feed` does with a piece: the word bytes at its beginning, and what comes after them.
pub head-whole : (p head : List ℕ) → head ≡ word p → length head ≡ length p → head ≡ p
head-whole p head is whole = grind (arith, common_steps, drop_all, append-nil, word-split)

-- where they are all of it, nothing is borrowed
pub word-kept : (t p : List ℕ) → list_all is_word_byte p ≡ true → lengthened (kept t) p ≡ kept (t ++ p)
word-kept t p all = rw (within-lengthened, (longer t p all).0)

pub word-borrows : (t p : List ℕ) → list_all is_word_byte p ≡ true → ended (t ++ p) ≡ ended t ++ borrowed_after t None (names_after 0 (length p) (drop (length p) p))
word-borrows t p all = rw ((longer t p all).1, drop_all (length p) p (omega arith), names_after-none) (sym (append-nil (ended t)))

module _ (p head : List ℕ) (is : head ≡ word p) (short : length head < length p) where
  other : list_all is_word_byte p ≡ false
  other = list_all_at is_word_byte p (length head) 0 short (ap (λ h. is_word_byte (get_or p (length h) 0)) is ∙ word-stops p)

  pub head-before : head ≡ word (before_last_word p)
  head-before = grind (arith, append-nil, (word-before p [] other))

  pub piece-prefix : (tail : List ℕ) → tail ≡ last_word p → take (length p - length tail) p ≡ before_last_word p
  piece-prefix tail last =
      let n = length p - length tail in
      let sizes = sym (length-append (before_last_word p) (last_word p)) ∙ ap length (split p) in
      let size : length (before_last_word p) ≡ n = omega (arith, ap length last, sizes) in
      ap (take n) (sym (split p)) ∙ take_at (before_last_word p) (last_word p) n size

  pub piece-fits : length head ≤ length (before_last_word p)
  piece-fits = omega (arith, ap length head-before, length-prefix_len is_word_byte (before_last_word p), prefix_len-le-length is_word_byte (before_last_word p))

  pub piece-kept : (t tail : List ℕ) → tail ≡ last_word p → lengthened (Some []) tail ≡ kept (t ++ p)
  piece-kept t tail last = ap within (last ∙ sym (fresh t p other).0)

  pub piece-borrows : (t : List ℕ) → ended (t ++ p) ≡ ended t ++ borrowed_after t (kept_name (lengthened (kept t) head))
      (names_after 0 (length head) (drop (length head) (before_last_word p)))
  piece-borrows t = rw ((fresh t p other).1, head-before) (taken-append t (before_last_word p))

-- ---- pieces in turn

borrowed-whole : (before : List ℕ) (pieces : List (List ℕ)) (borrowed : List (List NameAt)) → BorrowedInTurn before pieces borrowed → ended before ++ flat_map (λ xs. xs) borrowed
    ≡ ended (before ++ joined pieces)
borrowed-whole before [] [] turns = grind (arith, append-nil)
borrowed-whole before [] (xs ∷ borrowed) turns = absurd turns
borrowed-whole before (p ∷ ps) [] turns = absurd turns
borrowed-whole before (p ∷ ps) (xs ∷ borrowed) turns = grind (arith, common_steps, append_assoc, (borrowed-whole (before ++ p) ps borrowed turns.1))

-- What is borrowed for the pieces in turn, and last at the end, is what the joined text has.
pub pieces-whole : PiecesGiveTheWhole
pieces-whole pieces borrowed last turns end = grind (arith, common_steps, ended-nil, borrowed-whole)
