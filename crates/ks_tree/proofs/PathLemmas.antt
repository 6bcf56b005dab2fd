-- No two files of different kinds stand at one path.
use Rattle.ks_tree.proofs.Prelude.{◌+◌, ◌≤◌, ◌<◌, length, take, drop, get_or, arith, ◌≡◌, ◌≢◌, ℕ, List, [], ◌∷◌, ◌++◌, Bool, true, false, cond, sym, ◌∙◌, ap, refl, codes, nat_eq, IsTrue, list_any, list_all, list_any-append, or_right, cases_eq, ne_eqb, and_parts, cond-true, cond-false, append_cancel_left, is_word_byte, is_name, header_path, temporary, auto_path, stamp_temporary, stamp_path, has_slash, dotted, command_path, command_temporary, common_steps, rules}

-- ---- which paths have a dot

unfoldable pub has_dot : List ℕ → Bool
has_dot p = list_any (nat_eq 46) p

unfoldable pub last : List ℕ → ℕ
last [] = 0
last (c ∷ []) = c
last (c ∷ d ∷ cs) = last (d ∷ cs)

last-append : (xs : List ℕ) (y : ℕ) (ys : List ℕ) → last (xs ++ y ∷ ys) ≡ last (y ∷ ys)
unfolding last
last-append [] y ys = refl
last-append (x ∷ []) y ys = refl
last-append (x ∷ z ∷ xs) y ys = last-append (z ∷ xs) y ys

words_no_dot : (x : List ℕ) → list_all is_word_byte x ≡ true → has_dot x ≡ false
unfolding has_dot
words_no_dot [] h = refl
words_no_dot (c ∷ x) h = search (rules, and_parts, cases_eq, ne_eqb, (words_no_dot x))

-- ---- the paths apart

-- 0 without a dot, and else the last byte
unfoldable pub ending : List ℕ → ℕ
ending p = cond (has_dot p) (last p) 0

-- paths of different endings are apart
pub apart : {p q : List ℕ} {a b : ℕ} → ending p ≡ a → ending q ≡ b → (a ≡ b → ⊥) → p ≢ q
apart ep eq ne same = ne (sym ep ∙ ap ending same ∙ eq)

pub ending-stamp : (x : List ℕ) → IsTrue (is_name x) → ending (stamp_path x) ≡ 0
unfolding ending has_dot stamp_path is_name
ending-stamp x h = search (rules, cond-false, words_no_dot, and_parts)

-- behind a dot
ending-after : (p s : List ℕ) → ending (p ++ 46 ∷ s) ≡ last (46 ∷ s)
unfolding ending has_dot
ending-after p s = search (rules, cond-true, list_any-append, or_right, last-append)

pub ending-command : (o : List ℕ) → ending (command_path o) ≡ 100
unfolding command_path last
ending-command o = ending-after (dotted o) (codes "cmd")

pub ending-command_temporary : (o : List ℕ) → ending (command_temporary o) ≡ 112
unfolding command_temporary last
ending-command_temporary o = ending-after (dotted o) (codes "cmd.tmp")

pub ending-temporary : (p : List ℕ) → ending (temporary p) ≡ 112
unfolding last
ending-temporary p = ending-after p (codes "tmp")

pub ending-auto : ending auto_path ≡ 102
unfolding ending auto_path has_dot last
ending-auto = refl

pub ending-header : ending header_path ≡ 104
unfolding ending header_path has_dot last
ending-header = refl

pub ending-stamp_temporary : ending stamp_temporary ≡ 112
unfolding ending stamp_temporary has_dot last
ending-stamp_temporary = refl

pub stamp-injective : (x y : List ℕ) → stamp_path x ≡ stamp_path y → x ≡ y
unfolding stamp_path
stamp-injective x y e = append_cancel_left (codes "include/config/") x y e

pub undotted : List ℕ → List ℕ
undotted [] = []
undotted (c ∷ cs) = cond (has_slash (c ∷ cs)) (c ∷ undotted cs) cs

slash-dotted : (p : List ℕ) → has_slash (dotted p) ≡ has_slash p
slash-dotted [] = refl
slash-dotted (c ∷ cs) = search (rules, (slash-dotted cs))

pub undotted-dotted : (p : List ℕ) → undotted (dotted p) ≡ p
unfolding undotted
undotted-dotted [] = refl
undotted-dotted (c ∷ cs) = search (rules, cond-true, slash-dotted, cond-false, (undotted-dotted cs))

-- ---- a dot put before the last part, byte by byte

-- after a slash the last part begins again
pub dotted-slash : (xs : List ℕ) → dotted (xs ++ 47 ∷ []) ≡ xs ++ 47 ∷ 46 ∷ []
dotted-slash [] = refl
dotted-slash (x ∷ xs) = search (rules, cond-true, list_any-append, or_right, (dotted-slash xs))

-- any other byte belongs to the last part
pub dotted-push : (xs : List ℕ) (c : ℕ) → nat_eq 47 c ≡ false → dotted (xs ++ c ∷ []) ≡ dotted xs ++ c ∷ []
dotted-push [] c other = search rules
dotted-push (x ∷ xs) c other = search (rules, list_any-append, (dotted-push xs c other))

-- Where the path up to i has its dot after n bytes, so has the path up to i + 1, unless it ends in a slash.
pub border_slash : (p : List ℕ) (i n : ℕ) → i < length p → get_or p i 0 ≡ 47 → n ≡ i + 1 → dotted (take (i + 1) p) ≡ take n p ++ 46 ∷ drop n (take (i + 1) p)
border_slash p i n h slash is = grind (arith, common_steps, dotted-slash)

pub border_other : (p : List ℕ) (i n : ℕ) → i < length p → (get_or p i 0 ≡ 47 → ⊥) → n ≤ i → dotted (take i p) ≡ take n p ++ 46 ∷ drop n (take i p)
    → dotted (take (i + 1) p) ≡ take n p ++ 46 ∷ drop n (take (i + 1) p)
border_other p i n h other le border = grind (arith, common_steps, dotted-push, ne_eqb)
