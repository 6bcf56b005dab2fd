-- A line of a script asks for what it spells.
use Rattle.ks_requests.proofs.Prelude.{chain, cond_some, ◌≡◌, ℕ, ◌&&◌, ◌==◌, Bool, true, false, not, cond, IsTrue, List, [], ◌∷◌, ◌++◌, take_while, codes, Option, Some, None, option_map, refl, sym, ap, subst, ◌∙◌, append_assoc, nat_le, arith, list_all, drop-append_seam, cond-true, cond-false, cases_Bool, and_parts, and_from, nat_tests, take_while-cons, is_path, is_path_byte, run_is, opened, run_split, is_word_byte, is_word, Line, Sync, Record, Stale, Says, first_word, script_line, sync_line, record_line, stale_line, LinesAreSpelled, rules}

-- what was chain after something that was chain
mapped : {X Y : Type 0} (f : X → Y) (o : Option X) (y : Y) → option_map f o ≡ Some y → (x : X) × (o ≡ Some x) × (f x ≡ y)
mapped f None y e = absurd (cc e)
mapped f (Some x) y e = (x, refl, cc e)

-- a text that starts with a needle
-- a text is its run and what follows, and the run passes
run_passes : (p : ℕ → Bool) (xs : List ℕ) → list_all p (take_while p xs) ≡ true
run_passes p [] = refl
run_passes p (x ∷ xs) = search (rules, take_while-cons, cond-true, and_from, cond-false, cases_Bool, (run_passes p xs))

-- a first word is a word and a space, whatever stands after them
abbrev Cut : List ℕ → List ℕ × List ℕ → Type 0
Cut text cut = IsTrue (is_word cut.0) × (text ≡ cut.0 ++ codes " " ++ cut.1)

cut_of : (text : List ℕ) (cut : List ℕ × List ℕ) → first_word text ≡ Some cut → Cut text cut
unfolding first_word
cut_of text cut e = search (rules, cond_some, and_parts, and_from, run_passes, run_split, opened, append_assoc)

first_word_is : (word rest : List ℕ) → is_word word ≡ true → first_word (word ++ codes " " ++ rest) ≡ Some (word, rest)
unfolding first_word
first_word_is word rest h = search (rules, and_parts, append_assoc, run_is, drop-append_seam, cond-true, and_from)

-- a path has no space
first_of_five : (a b c d e : Bool) → (a && b && c && d && e) ≡ true → a ≡ true
first_of_five true b c d e h = refl
first_of_five false b c d e h = absurd (cc h)

path_args : (xs : List ℕ) → list_all is_path_byte xs ≡ true → list_all is_word_byte xs ≡ true
path_args [] h = refl
path_args (x ∷ xs) h =
    let parts = and_parts (is_path_byte x) (list_all is_path_byte xs) h in
    and_from (is_word_byte x) (list_all is_word_byte xs) (no_space x parts.0) (path_args xs parts.1)
  where
    no_space : (x : ℕ) → is_path_byte x ≡ true → is_word_byte x ≡ true
    no_space x e = let h = first_of_five (nat_le 33 x) (nat_le x 126) (not (x == 36)) (not (x == 35)) (not (x == 92)) e in grind (arith, nat_tests)

path_is_word : (path : List ℕ) → is_path path ≡ true → is_word path ≡ true
unfolding is_path
path_is_word path e = search (rules, and_parts, and_from, path_args)

says_sync : (line args : List ℕ) (stated : Line) → line ≡ codes "sync " ++ args → sync_line args ≡ Some stated → Says line stated
unfolding sync_line
says_sync line args stated is e =
    let cut = chain (λ (c : List ℕ × List ℕ). cond (is_path c.0 && is_path c.1) (Some (Sync c.0 c.1)) None) (first_word args) stated e in
    let reported = cond_some (is_path cut.0.0 && is_path cut.0.1) (Sync cut.0.0 cut.0.1) stated cut.2 in
    let paths = and_parts (is_path cut.0.0) (is_path cut.0.1) reported.0 in
    subst (Says line) reported.1 (paths.0, paths.1, is ∙ ap (λ (l : List ℕ). codes "sync " ++ l) (cut_of args cut.0 cut.1).1)

four_pieces : (a b c d e : List ℕ) → a ++ b ++ (c ++ d ++ e) ≡ a ++ b ++ c ++ d ++ e
four_pieces a b c d e = sym (append_assoc (a ++ b) (c ++ d) e) ∙ ap (λ (l : List ℕ). l ++ e) (sym (append_assoc (a ++ b) c d))

says_record : (line args : List ℕ) (stated : Line) → line ≡ codes "record " ++ args → record_line args ≡ Some stated → Says line stated
unfolding record_line
says_record line args stated is e = search (rules, chain, mapped, cut_of, four_pieces)

says_stale : (line args : List ℕ) (stated : Line) → line ≡ codes "stale " ++ args → stale_line args ≡ Some stated → Says line stated
unfolding stale_line
says_stale line args stated is e = search (rules, cond_some)

spelled : (line : List ℕ) (stated : Line) → script_line line ≡ Some stated → Says line stated
unfolding script_line
spelled line stated e = search (rules, says_sync, opened, cond-true, cond-false, says_record, says_stale, cases_Bool)

spells : (line : List ℕ) (stated : Line) → Says line stated → script_line line ≡ Some stated
unfolding script_line sync_line record_line stale_line
spells line (Sync kconfig dotconfig) h = search (rules, first_word_is, path_is_word, cond-true, and_from)
spells line (Record depfile target command) h = search (rules, four_pieces, first_word_is)
spells line (Stale target) h = ap script_line h.1 ∙ cond-true (is_word target) _ _ h.0

pub lines_are_spelled : LinesAreSpelled
lines_are_spelled line stated = (spelled line stated, spells line stated)
