-- Lines of a Kconfig with no blank but one: their forms are seen at their fronts.
use Rattle.ks_symbols.proofs.Prelude.{◌≡◌, ◌++◌, ◌+◌, ◌==◌, if◌then◌else◌, not, length, drop_all, eq-eqb, ℕ, Bool, true, false, cond, List, [], ◌∷◌, Option, Some, None, IfSome, codes, drop, take_while, refl, ◌∙◌, sym, ap, arith, list_all, starts_with, nat_eq, nat_tests, prefix_len, bytes_eq, bytes_decides, and_parts, and_from, cond-true, take_while-cons, same_Some, is_word_byte, is_name, is_blank, is_no_blank, Kind, HasKind, line_kind, word_line_kind, kind_line_kind, rules}
use Rattle.ks_symbols.specs.declared.dialect.Dialect.{Dialect}
use Rattle.ks_symbols.specs.declared.kinds.Kind.TheVariants as kind
use Rattle.ks_symbols.specs.LineKinds.{bool_kind, text_kind, named_kind, entry_line_kind, skip_blanks, first_word, after_word, is_one_word, Unknown}
use Rattle.ks_symbols.proofs.Spellings.{opened, word_bytes}

-- a kind's name after a tab
at_bool : (d : Dialect) → line_kind d (9 ∷ codes "bool") ≡ HasKind (bool_kind d)
unfolding line_kind word_line_kind kind_line_kind
at_bool d = refl

at_tristate : (d : Dialect) → line_kind d (9 ∷ codes "tristate") ≡ HasKind kind.Tristate
unfolding line_kind word_line_kind kind_line_kind
at_tristate d = refl

at_string : (d : Dialect) → line_kind d (9 ∷ codes "string") ≡ HasKind (text_kind d)
unfolding line_kind word_line_kind kind_line_kind
at_string d = refl

at_int : (d : Dialect) → line_kind d (9 ∷ codes "int") ≡ HasKind kind.Int
unfolding line_kind word_line_kind kind_line_kind
at_int d = refl

at_hex : (d : Dialect) → line_kind d (9 ∷ codes "hex") ≡ HasKind kind.Hex
unfolding line_kind word_line_kind kind_line_kind
at_hex d = refl

-- the first of several words, or another one
or_later : {P : Type 0} (b : Bool) (x : Kind) (o : Option Kind) (k : Kind) → cond b (Some x) o ≡ Some k → (b ≡ true → x ≡ k → P) → (o ≡ Some k → P) → P
or_later true x o k e here later = here refl (same_Some x k e)
or_later false x o k e here later = later e

module _ (d : Dialect) (w : List ℕ) (k : Kind) where
  is_word : (v : List ℕ) (x : Kind) → line_kind d (9 ∷ v) ≡ HasKind x → bytes_eq w v ≡ true → x ≡ k → line_kind d (9 ∷ w) ≡ HasKind k
  is_word v x at is same = ap (λ (l : List ℕ). line_kind d (9 ∷ l)) ((bytes_decides w v).0 is) ∙ at ∙ ap HasKind same

  kind_word : named_kind d w ≡ Some k → line_kind d (9 ∷ w) ≡ HasKind k
  kind_word e =
      or_later (bytes_eq w (codes "bool")) _ _ k e (is_word _ _ (at_bool d)) (λ e.
      or_later (bytes_eq w (codes "tristate")) _ _ k e (is_word _ _ (at_tristate d)) (λ e.
      or_later (bytes_eq w (codes "string")) _ _ k e (is_word _ _ (at_string d)) (λ e.
      or_later (bytes_eq w (codes "int")) _ _ k e (is_word _ _ (at_int d)) (λ e.
      or_later (bytes_eq w (codes "hex")) _ _ k e (is_word _ _ (at_hex d)) (λ e. absurd (cc e))))))

pub kind_line : (d : Dialect) (line : List ℕ) (k : Kind) → starts_with nat_eq line (9 ∷ []) ≡ true → named_kind d (drop 1 line) ≡ Some k
    → line_kind d line ≡ HasKind k
kind_line d line k tab e = ap (line_kind d) (opened line (9 ∷ []) tab) ∙ kind_word d (drop 1 line) k e

pub kind_lines : (d : Dialect) (line : List ℕ) (o : Option Kind) → starts_with nat_eq line (9 ∷ []) ≡ true → o ≡ named_kind d (drop 1 line)
    → IfSome o (λ k. line_kind d line ≡ HasKind k)
kind_lines d line None tab e = tt
kind_lines d line (Some k) tab e = kind_line d line k tab (sym e)

-- a name after `config` and a blank
unblank : (b : ℕ) → is_word_byte b ≡ true → is_no_blank b ≡ true
unblank b h = grind (arith, nat_tests)

run_whole : (p : ℕ → Bool) (xs : List ℕ) → list_all p xs ≡ true → take_while p xs ≡ xs
run_whole p [] h = refl
run_whole p (x ∷ xs) h = search (rules, and_parts, take_while-cons, cond-true, (run_whole p xs))

all_pass : (p q : ℕ → Bool) → ((b : ℕ) → p b ≡ true → q b ≡ true) → (xs : List ℕ) → list_all p xs ≡ true → list_all q xs ≡ true
all_pass p q f [] h = refl
all_pass p q f (x ∷ xs) h = search (rules, and_parts, and_from, f, (all_pass p q f xs))

whole : (xs : List ℕ) → list_all is_word_byte xs ≡ true → take_while is_no_blank xs ≡ xs
whole xs h = run_whole is_no_blank xs (all_pass is_word_byte is_no_blank unblank xs h)

no_front : (xs : List ℕ) → list_all is_word_byte xs ≡ true → prefix_len is_blank xs ≡ 0
no_front [] h = refl
no_front (x ∷ xs) h = grind (arith, and_parts, unblank)

line_kind_is : (d : Dialect) (line word rest : List ℕ) → skip_blanks line ≡ line → (length line == 0) ≡ false → starts_with nat_eq line (codes "#") ≡ false
    → first_word line ≡ word → after_word line ≡ rest → line_kind d line ≡ word_line_kind d true word rest
unfolding line_kind
line_kind_is d line word rest front some comment first after =
    let same : (length line == length line) ≡ true = eq-eqb (length line) (length line) refl in
    rw (front, after, first, some, comment, same) refl

one_word : (name : List ℕ) → not (length name == 0) ≡ true → take_while is_no_blank name ≡ name → is_one_word name ≡ true
one_word name some first = rw (first, drop_all (length name) name (omega arith), some) refl

named : (d : Dialect) (name : List ℕ) → is_name name ≡ true → line_kind d (codes "config " ++ name) ≡ entry_line_kind d name
unfolding word_line_kind is_name
named d name is =
    let word = word_bytes name is in
    let first = whole name word in
    let one = one_word name (and_parts _ _ (and_parts _ _ is).0).0 first in
    line_kind_is d (codes "config " ++ name) (codes "config") name refl (search (rules, nat_tests)) refl refl (ap (λ n. drop (1 + n) (32 ∷ name)) (no_front name word))
    ∙ ap (λ b. if b then entry_line_kind d (take_while is_no_blank name) else Unknown) one
    ∙ ap (entry_line_kind d) first

pub entry_line : (d : Dialect) (line : List ℕ) → starts_with nat_eq line (codes "config ") ≡ true → is_name (drop 7 line) ≡ true
    → line_kind d line ≡ entry_line_kind d (drop 7 line)
entry_line d line config is = ap (line_kind d) (opened line (codes "config ") config) ∙ named d (drop 7 line) is
