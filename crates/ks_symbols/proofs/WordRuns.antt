-- The run of word bytes that a text begins with: past bytes that are known to pass, and among bytes that are looked at at once.
use Rattle.ks_symbols.proofs.Prelude.{◌≡◌, ℕ, zero, suc, ◌+◌, ◌-◌, ◌%◌, ◌^◌, ◌<◌, ◌≤◌, Bool, true, false, cond, not, List, [], ◌∷◌, map, refl, sym, ap, ◌∙◌, arith, inl, inr, length, get_or, get_or-take, take, drop, AllPass-from_list_all, take_while, list_all, starts_with, nat_eq, codes, prefix_len, prefix_len_is, length-prefix_len, take_rest, drop-drop, is_name, length-drop, length-take-le, take-append-drop, and_from, ne_eqb, ◌++◌, not-false, not-true, cases_Bool, cases_lt, cond-true, cond-false, take_while-cons, length-map, is_word_byte, rules}
use Rattle.ks_symbols.proofs.Spellings.{opened}
use Rattle.std.proofs.Common.{Fits, w8, w64, eqb, ltb}
use Rattle.std.proofs.lemmas.Bool.{le-leb, agree_below, agree_below_at}
use Rattle.std.proofs.lemmas.Simd.{map-map, mask_l-mod, length-chunk, first_set_mask_l, run_in_chunk_le, run_in_chunk_fails, run_in_chunk_stops}
use lib.Lanes.{chunk, mask_l, top, sel_l, zip2}
use Rattle.std.specs.Int.{trailing_zeros}

pub run_passes : {X : Type 0} (p : X → Bool) (xs : List X) → list_all p (take_while p xs) ≡ true
run_passes p [] = refl
run_passes p (x ∷ xs) = search (rules, take_while-cons, cond-true, cond-false, cases_Bool, (run_passes p xs))

-- the word of a line that begins with `CONFIG_`
module _ (line : List ℕ) (e : starts_with nat_eq line (codes "CONFIG_") ≡ true) where
  pub entry_fits : 7 ≤ length line
  entry_fits = let long : length line ≡ 7 + length (drop 7 line) = ap length (opened line (codes "CONFIG_") e) ∙ omega arith in omega arith

  pub entry_passes : list_all is_word_byte (take 7 line) ≡ true
  entry_passes = ap (λ l. list_all is_word_byte (take 7 l)) (opened line (codes "CONFIG_") e)

  pub entry_end : prefix_len is_word_byte line ≡ 7 + prefix_len is_word_byte (drop 7 line)
  entry_end = ap (prefix_len is_word_byte) (opened line (codes "CONFIG_") e) ∙ omega arith

  pub entry_name : (end : ℕ) → end ≡ prefix_len is_word_byte line → take (end - 7) (drop 7 line) ≡ take_while is_word_byte (drop 7 line)
  entry_name end is = let left : end - 7 ≡ prefix_len is_word_byte (drop 7 line) = omega (arith, is, entry_end) in ap (λ n. take n (drop 7 line)) left

  pub entry_rest : (end : ℕ) → end ≡ prefix_len is_word_byte line → take (length line - end) (drop end line) ≡ drop (length (take (end - 7) (drop 7 line))) (drop 7 line)
  entry_rest end is =
      let long : length (take (end - 7) (drop 7 line)) ≡ prefix_len is_word_byte (drop 7 line) = ap length (entry_name end is) ∙ length-prefix_len is_word_byte (drop 7 line) in
      let on : end ≡ 7 + length (take (end - 7) (drop 7 line)) = omega (arith, is, entry_end, long) in
      take_rest line end ∙ ap (λ n. drop n line) on ∙ sym (drop-drop (length (take (end - 7) (drop 7 line))) 7 line)

pub known_pass : (p : ℕ → Bool) (xs : List ℕ) (known : ℕ) → known ≤ length xs → list_all p (take known xs) ≡ true → (k : ℕ) → k < known → p (get_or xs k 0) ≡ true
known_pass p xs known fits all k within =
    ap p (sym (get_or-take known xs k 0 within)) ∙ AllPass-from_list_all p (take known xs) all k 0 (omega (arith, length-take-le known xs fits))

-- bytes that pass up to a place, and from one before it up to an end
pub passes_on : (p : ℕ → Bool) (xs : List ℕ) (seen at end : ℕ) → at ≤ seen → ((k : ℕ) → k < seen → p (get_or xs k 0) ≡ true)
    → ((k : ℕ) → at ≤ k → k < end → p (get_or xs k 0) ≡ true) → (k : ℕ) → k < end → p (get_or xs k 0) ≡ true
passes_on p xs seen at end overlap front run k within = elim (cases_lt k seen) [ inl early ↦ front k early | inr late ↦ run k (omega arith) within ]

pub run_ends : (p : ℕ → Bool) (xs : List ℕ) (seen at end : ℕ) → at ≤ seen → end ≤ length xs → ((k : ℕ) → k < seen → p (get_or xs k 0) ≡ true)
    → ((k : ℕ) → at ≤ k → k < end → p (get_or xs k 0) ≡ true) → (end < length xs → p (get_or xs end 0) ≡ false) → end ≡ prefix_len p xs
run_ends p xs seen at end overlap fits front run stops = sym (prefix_len_is p xs end 0 fits (passes_on p xs seen at end overlap front run) stops)

name_from_run : (name : List ℕ) → 0 < length name → length name ≤ 128 → list_all is_word_byte name ≡ true → is_name name ≡ true
unfolding is_name
name_from_run name some short passes = and_from _ _ (and_from _ _ (ap not (ne_eqb _ _ (λ (none : length name ≡ 0). omega (arith, none)))) (le-leb _ _ short)) passes

-- The same of a word of fewer than 32 bytes, of which the bytes from 7 on are looked at.
pub short_entry : (line : List ℕ) (run : ℕ) → starts_with nat_eq line (codes "CONFIG_") ≡ true → 42 ≤ length line → 0 < run → run < 32
    → ((k : ℕ) → 7 ≤ k → k < 7 + run → is_word_byte (get_or line k 0) ≡ true) → is_word_byte (get_or line (7 + run) 0) ≡ false
    → (is_name (take (7 + run - 7) (drop 7 line)) ≡ true)
    × (line ≡ codes "CONFIG_" ++ take (7 + run - 7) (drop 7 line) ++ take (length line - (7 + run)) (drop (7 + run) line))
    × (3 ≤ length (take (length line - (7 + run)) (drop (7 + run) line)))
short_entry line run e long some short passes stops =
    let front = known_pass is_word_byte line 7 (omega arith) (entry_passes line e) in
    let end = run_ends is_word_byte line 7 7 (7 + run) (omega arith) (omega arith) front passes (λ _. stops) in
    let name = take (7 + run - 7) (drop 7 line) in
    let sized : length name ≡ run = length-take-le (7 + run - 7) (drop 7 line) (omega (arith, length-drop 7 line)) ∙ omega arith in
    let all : list_all is_word_byte name ≡ true = ap (list_all is_word_byte) (entry_name line e (7 + run) end) ∙ run_passes is_word_byte (drop 7 line) in
    let split = sym (take-append-drop (7 + run - 7) (drop 7 line)) in
    let rest = drop-drop (7 + run - 7) 7 line ∙ ap (λ n. drop n line) (omega arith) ∙ sym (take_rest line (7 + run)) in (
      name_from_run name (omega (arith, sized)) (omega (arith, sized)) all,
      opened line (codes "CONFIG_") e ∙ ap (λ t. codes "CONFIG_" ++ t) (split ∙ ap (λ r. name ++ r) rest),
      omega (arith, ap length (take_rest line (7 + run)), length-drop (7 + run) line),
    )

sel_of_maps : {V : Type 0} (g h : V → ℕ) (vs : List V)
    → sel_l (map (top 7) (zip2 (λ (a b : ℕ). cond {A = ℕ} (ltb a b) 255 0) (map g vs) (map h vs))) (map g vs) (map h vs) ≡ map (λ v. cond (top 7 (cond {A = ℕ} (ltb (g v) (h v)) 255 0)) (g v) (h v)) vs
sel_of_maps g h [] = refl
sel_of_maps g h (v ∷ vs) = ap (λ l. cond (top 7 (cond {A = ℕ} (ltb (g v) (h v)) 255 0)) (g v) (h v) ∷ l) (sel_of_maps g h vs)

-- the least of two vectors that were computed lane by lane from vs
pub min_of_maps : {V : Type 0} (g h : V → ℕ) (vs : List V) {xs ys : List ℕ} → xs ≡ map g vs → ys ≡ map h vs
    → sel_l (map (top 7) (zip2 (λ (a b : ℕ). cond {A = ℕ} (ltb a b) 255 0) xs ys)) xs ys ≡ map (λ v. cond (top 7 (cond {A = ℕ} (ltb (g v) (h v)) 255 0)) (g v) (h v)) vs
min_of_maps g h vs a b = (λ i. sel_l (map (top 7) (zip2 (λ (a b : ℕ). cond {A = ℕ} (ltb a b) 255 0) (a i) (b i))) (a i) (b i)) ∙ sel_of_maps g h vs

-- Of n bytes the lanes z are set by f where p fails.
module _ (p : ℕ → Bool) (n : ℕ) (few : n ≤ 64) (text : List ℕ) (at r : ℕ) (f : ℕ → ℕ) (z : List ℕ) (headroom : at + n ≤ length text) (fits : (k : ℕ) → Fits w8 (get_or text k 0))
    (lanes : z ≡ map f (chunk at n text))
    (found : r ≡ cond (eqb (mask_l (map (top 7) z) % 2 ^ 64) 0) n (trailing_zeros w64 (mask_l (map (top 7) z) % 2 ^ 64)))
    (agrees : agree_below (λ x. top 7 (f x)) (λ x. not (p x)) 256 ≡ true) where
  abbrev stops : ℕ → Bool
  stops x = top 7 (f x)

  counted : r ≡ prefix_len (λ x. not (stops x)) (chunk at n text)
  counted =
      let v = chunk at n text in
      let long = length-chunk at n text headroom in
      let mask = ap (λ l. mask_l l % 2 ^ 64) (ap (map (top 7)) lanes ∙ map-map (top 7) f v) ∙ mask_l-mod (map stops v) 64 (omega (arith, length-map v stops, long, few)) in
      found ∙ ap (λ m. cond (eqb m 0) n (trailing_zeros w64 m)) mask ∙ first_set_mask_l stops v n long few

  reports : (k : ℕ) → not (p (get_or text k 0)) ≡ stops (get_or text k 0)
  reports k = sym (agree_below_at stops (λ x. not (p x)) 256 (get_or text k 0) agrees (fits k).fits)

  pub run_of_lanes : (r ≤ n) × ((k : ℕ) → at ≤ k → k < at + r → p (get_or text k 0) ≡ true) × (r < n → p (get_or text (at + r) 0) ≡ false)
  run_of_lanes = (
    run_in_chunk_le stops text at n r 0 headroom counted,
    λ k from to. not-false _ (reports k ∙ run_in_chunk_fails stops text at n r 0 headroom counted k from to),
    λ short. not-true _ (reports (at + r) ∙ run_in_chunk_stops stops text at n r 0 headroom counted short),
  )

-- from each byte to all of them
pub all_from_run : (p : ℕ → Bool) (xs : List ℕ) (n : ℕ) → ((k : ℕ) → k < n → p (get_or xs k 0) ≡ true) → n ≤ length xs → list_all p (take n xs) ≡ true
all_from_run p xs zero pass fits = refl
all_from_run p [] (suc n) pass fits = refl
all_from_run p (x ∷ xs) (suc n) pass fits = and_from (p x) _ (pass 0 (omega arith)) (all_from_run p xs n (λ k lt. pass (suc k) (omega arith)) (omega arith))
