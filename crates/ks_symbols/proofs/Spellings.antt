-- A line of a `.config` says what it spells.
use Rattle.ks_symbols.proofs.Prelude.{drop-append_seam, cond_some, ◌≡◌, ℕ, Bool, true, false, nat_eq, List, [], ◌∷◌, ◌++◌, length, drop, take_while, codes, Some, inl, inr, refl, sym, ◌∙◌, append_assoc, list_all, starts_with, cond-true, cond-false, cases_Bool, and_parts, take-append-drop, take_while-cons, is_word_byte, is_name, Statement, Says, statement, assignment, unsetting, StatementsAreSpelled, rules}

-- a text is its run and what follows
pub run_split : (p : ℕ → Bool) (xs : List ℕ) → xs ≡ take_while p xs ++ drop (length (take_while p xs)) xs
run_split p [] = refl
run_split p (x ∷ xs) = search (rules, take_while-cons, cond-true, cond-false, cases_Bool, (run_split p xs))

pub run_is : (p : ℕ → Bool) (xs : List ℕ) (c : ℕ) (rest : List ℕ) → list_all p xs ≡ true → p c ≡ false → take_while p (xs ++ c ∷ rest) ≡ xs
run_is p [] c rest h e = search (rules, take_while-cons, cond-false)
run_is p (x ∷ xs) c rest h e = search (rules, and_parts, take_while-cons, cond-true, (run_is p xs c rest))

-- a text that starts with a needle
pub opened : (xs needle : List ℕ) → starts_with nat_eq xs needle ≡ true → xs ≡ needle ++ drop (length needle) xs
opened xs needle e = search (rules, take-append-drop)

pub word_bytes : (name : List ℕ) → is_name name ≡ true → list_all is_word_byte name ≡ true
unfolding is_name
word_bytes name e = (and_parts _ _ e).1

says_assignment : (line text : List ℕ) (stated : Statement) → line ≡ codes "CONFIG_" ++ text → assignment text ≡ Some stated → Says line stated
unfolding assignment
says_assignment line text stated is e = search (rules, cond_some, and_parts, run_split, opened, append_assoc)

says_unsetting : (line text : List ℕ) (stated : Statement) → line ≡ codes "# CONFIG_" ++ text → unsetting text ≡ Some stated → Says line stated
unfolding unsetting
says_unsetting line text stated is e = search (rules, cond_some, and_parts, run_split, append_assoc)

spelled : (line : List ℕ) (stated : Statement) → statement line ≡ Some stated → Says line stated
unfolding statement
spelled line stated e = elim (cases_Bool (starts_with nat_eq line (codes "CONFIG_"))) [
  | inl set ↦ says_assignment line (drop 7 line) stated (opened line (codes "CONFIG_") set) (sym (cond-true _ _ _ set) ∙ e)
  | inr other ↦
      let rest = sym (cond-false _ _ _ other) ∙ e in
      elim (cases_Bool (starts_with nat_eq line (codes "# CONFIG_"))) [
        | inl unset ↦ says_unsetting line (drop 9 line) stated (opened line (codes "# CONFIG_") unset) (sym (cond-true _ _ _ unset) ∙ rest)
        | inr comment_or_blank ↦ absurd (cc (sym (cond-false _ _ _ comment_or_blank) ∙ rest))
      ]
]

spells : (line : List ℕ) (stated : Statement) → Says line stated → statement line ≡ Some stated
unfolding statement assignment unsetting
spells line stated h = search (rules, append_assoc, run_is, word_bytes, drop-append_seam)

pub statements_are_spelled : StatementsAreSpelled
statements_are_spelled line stated = (spelled line stated, spells line stated)
