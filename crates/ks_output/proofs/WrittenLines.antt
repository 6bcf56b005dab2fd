-- Lines that hold no end of a line, each followed by a line feed.
use Rattle.std.specs.Prelude.{◌==◌}
use Rattle.std.proofs.lemmas.Bool.{eqb-true}
use Rattle.std.proofs.lemmas.List.{nil_from_length}
use Rattle.ks_output.proofs.Prelude.{drop-append_seam, opened, ◌≡◌, ℕ, suc, Bool, true, false, nat_eq, List, [], ◌∷◌, ◌++◌, length, length-append, take, drop, bytes_eq, refl, ap, ◌∙◌, arith, list_all, ends_with, is_ascii_digit, bytes_decides, cond-true, cond-false, cases_Bool, and_parts, or_cases, list_all-append, line_len, lines_of, lines-step, Kind, is_name, is_string_byte, is_text, is_hexadecimal, is_title, common_steps, rules, and_from, nat_tests}
use Rattle.ks_symbols.specs.declared.kinds.Kind.TheVariants as kind

-- no LF, CR or NUL
abbrev pub is_plain : List ℕ → Bool
is_plain l = list_all is_string_byte l

pub plain-append : (a b : List ℕ) → is_plain a ≡ true → is_plain b ≡ true → is_plain (a ++ b) ≡ true
plain-append a b p q = search (rules, list_all-append, and_from)

-- the first line of a text
line_len-plain : (l rest : List ℕ) → is_plain l ≡ true → line_len (l ++ 10 ∷ rest) ≡ suc (length l)
unfolding line_len
line_len-plain [] rest h = refl
line_len-plain (b ∷ l) rest h = search (rules, and_parts, cases_Bool, cond-false, (line_len-plain l rest))

take_line : (l rest : List ℕ) → take (suc (length l)) (l ++ 10 ∷ rest) ≡ l ++ 10 ∷ []
take_line [] rest = refl
take_line (b ∷ l) rest = ap (λ (x : List ℕ). b ∷ x) (take_line l rest)

drop_line : (l rest : List ℕ) → drop (suc (length l)) (l ++ 10 ∷ rest) ≡ rest
drop_line [] rest = refl
drop_line (b ∷ l) rest = drop_line l rest

pub lines-plain : (l rest : List ℕ) → is_plain l ≡ true → lines_of (l ++ 10 ∷ rest) ≡ (l ++ 10 ∷ []) ∷ lines_of rest
lines-plain l rest h = search (rules, lines-step, length-append, line_len-plain, take_line, drop_line)

pub ends_with-plain : (l : List ℕ) → ends_with nat_eq (l ++ 10 ∷ []) (10 ∷ []) ≡ true
ends_with-plain l = grind (arith, common_steps, length-append, drop-append_seam)

-- what bytes of names, titles and texts are
string_byte : (p : ℕ → Bool) → p 10 ≡ false → p 13 ≡ false → p 0 ≡ false → (b : ℕ) → p b ≡ true → is_string_byte b ≡ true
string_byte p f g h b e = grind (arith, nat_tests)

plain_from : (p : ℕ → Bool) → p 10 ≡ false → p 13 ≡ false → p 0 ≡ false → (l : List ℕ) → list_all p l ≡ true → is_plain l ≡ true
plain_from p f g h [] e = refl
plain_from p f g h (b ∷ l) e = search (rules, and_parts, and_from, string_byte, (plain_from p f g h l))

pub plain_name : (name : List ℕ) → is_name name ≡ true → is_plain name ≡ true
unfolding is_name
plain_name name e = search (rules, plain_from, and_parts)

pub plain_digits : (digits : List ℕ) → list_all is_ascii_digit digits ≡ true → is_plain digits ≡ true
plain_digits digits e = plain_from is_ascii_digit refl refl refl digits e

pub plain_title : (title : List ℕ) → is_title title ≡ true → is_plain title ≡ true
unfolding is_title
plain_title title e = search (rules, plain_from, and_parts)

literal : (text stated : List ℕ) → is_plain stated ≡ true → bytes_eq text stated ≡ true → is_plain text ≡ true
literal text stated h e = ap is_plain ((bytes_decides text stated).0 e) ∙ h

plain_hexadecimal : (text : List ℕ) → is_hexadecimal text ≡ true → is_plain text ≡ true
plain_hexadecimal text e = search (rules, cond-true, plain-append, opened, or_cases, cond-false, cases_Bool, plain_from, and_parts)

no_bytes : (text : List ℕ) → (length text == 0) ≡ true → text ≡ []
no_bytes text e = nil_from_length text (eqb-true _ _ e)

pub plain_text : (k : Kind) (text : List ℕ) → is_text k text ≡ true → is_plain text ≡ true
unfolding is_text
plain_text kind.Hex text e = plain_hexadecimal text e
plain_text kind.EmptyInt text e = ap is_plain (no_bytes text e)
plain_text kind.EmptyHex text e = ap is_plain (no_bytes text e)
plain_text k text e = search (rules, plain-append, opened, cond-true, cond-false, cases_Bool, literal, plain_digits, and_parts, or_cases)
