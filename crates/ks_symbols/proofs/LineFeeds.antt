-- A line without its end holds no line feed.
use Rattle.ks_symbols.proofs.Prelude.{◌≡◌, ℕ, suc, ◌==◌, Bool, true, List, [], ◌∷◌, ◌++◌, length, take, drop, slice_index, map, ◌⊎◌, inl, inr, refl, arith, list_all, cases_Bool, eqb-true, and_parts, line_len, lines_from, no_cr, without_terminator, lines, is_no_line_feed, NoLineHoldsALineFeed, common_steps, rules, take-append_seam, and_from}

-- bytes without a line feed
abbrev is_free : List ℕ → Bool
is_free l = list_all is_no_line_feed l

free-take : (k : ℕ) (l : List ℕ) → is_free l ≡ true → is_free (take k l) ≡ true
free-take (suc k) (b ∷ l) h = search (rules, and_parts, (free-take k l))
free-take k l h = refl

-- the bytes of a line: free of line feeds, but for one that may end them
abbrev Shape : List ℕ → Type 0
Shape line = (front : List ℕ) × (is_free front ≡ true) × ((line ≡ front) ⊎ (line ≡ front ++ 10 ∷ []))

first_line : (bs : List ℕ) → Shape (take (line_len bs) bs)
unfolding line_len
first_line [] = ([], refl, inl refl)
first_line (b ∷ rest) =
    let (front, free, cut) = first_line rest in
    elim (cases_Bool (b == 10)) [
      | inl same ↦ ([], refl, inr (search (rules, same, eqb-true)))
      | inr other ↦ (b ∷ front, grind (arith, other), search (rules, other, cut))
    ]

free-no_cr : (l : List ℕ) → is_free l ≡ true → is_free (no_cr l) ≡ true
free-no_cr l h = grind (arith, free-take)

pub byte_at_end : (l : List ℕ) → slice_index (l ++ 10 ∷ []) (length l) ≡ 10
byte_at_end l = search (rules, common_steps)

free-stripped : (line : List ℕ) → Shape line → is_free (without_terminator line) ≡ true
free-stripped line (front, h, cut) = grind (arith, common_steps, byte_at_end, take-append_seam, free-no_cr, free-take)

all_free : (f : ℕ) (bs : List ℕ) → list_all (list_all is_no_line_feed) (map without_terminator (lines_from f bs)) ≡ true
unfolding lines_from
all_free (suc f) (b ∷ rest) = search (rules, and_from, free-stripped, first_line, (all_free f (drop (line_len (b ∷ rest)) (b ∷ rest))))
all_free f bs = refl

pub no_line_feeds : NoLineHoldsALineFeed
unfolding lines
no_line_feeds text = all_free (length text) text
