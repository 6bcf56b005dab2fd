-- What a reader of JSON finds in the line of an answer.
use Rattle.ks_requests.proofs.Prelude.{◌≡◌, ◌<◌, ◌≤◌, ◌∙◌, ◌^◌, ◌&&◌, ℕ, Bool, true, false, List, [], ◌∷◌, ◌++◌, Some, option_and_then, Ok, Err, append-nil, append_assoc, ap, ap₂, arith, codes, cond, flat_map, map, refl, sym, All, All-head, All-tail, encodes_same, ArePrintable, ArePrintable-json_tokens, HasNumbers, IsNumber-decimal, IsPrintable, Items, ItemsHaveNumbers, Json, Lexeme, Token, begins, between, colon, comma, content-escape, depth, document, document-print, ends, ends_word, escape, fresh, if_last, in_word-ended, items_depth, items_of, items_tokens, json_tokens, lex, lex-escape, lex-number, max_depth, print, print_from, punctuate, quoted, separator, string_token, token, token_text, value, word, Cause, Explanation, Limit, Verdict, CharactersTellApart, LinesAreObjects, asked_values, cause_value, first_values, json_answer}
use Rattle.json.specs.Token as t
use Rattle.ks_engine.specs.declared.query.Limit.TheVariants as limit
use Rattle.ks_engine.specs.declared.staleness.Verdict.TheVariants as verdict

-- ---- what is read of tokens that are printed in front of a text

abbrev lexemes_of : Token → List Lexeme
lexemes_of (t.key s) = token (t.string s) ∷ colon ∷ []
lexemes_of x = token x ∷ []

abbrev lexemes : Bool → List Token → List Lexeme → List Lexeme
lexemes c [] more = more
lexemes c (x ∷ ts) more = cond (c && begins x) (comma ∷ []) [] ++ (lexemes_of x ++ lexemes (ends x) ts more)

value_ends : (ts : List Token) (r : List ℕ) → ends_word r ≡ true → ends_word (print_from true ts ++ r) ≡ true
unfolding print_from
value_ends [] r e = e
value_ends (t.end_object ∷ ts) r e = refl
value_ends (t.end_array ∷ ts) r e = refl
value_ends (x ∷ ts) r e = refl

quoted_is : (s r : List ℕ) → lex between (quoted s ++ r) ≡ token (t.string s) ∷ lex between r
unfolding lex
quoted_is s r = ap (λ l. lex between (34 ∷ l)) (append_assoc (escape s) (34 ∷ []) r) ∙ ap₂ (λ o l. token (string_token o) ∷ l) (content-escape s r) (lex-escape s r)

token_is : (x : Token) (r : List ℕ) → IsPrintable x → (ends x ≡ true → ends_word r ≡ true) → lex between (token_text x ++ r) ≡ lexemes_of x ++ lex between r
unfolding lex word
token_is (t.key s) r h e = ap (lex between) (append_assoc (quoted s) (58 ∷ []) r) ∙ quoted_is s (58 ∷ r)
token_is (t.string s) r h e = quoted_is s r
token_is (t.number s) r h e = lex-number s r h (e refl)
token_is (t.boolean true) r h e = ap₂ (λ b l. token (cond b (t.boolean true) t.bad) ∷ l) (e refl) (in_word-ended r (e refl))
token_is (t.boolean false) r h e = ap₂ (λ b l. token (cond b (t.boolean false) t.bad) ∷ l) (e refl) (in_word-ended r (e refl))
token_is t.null r h e = ap₂ (λ b l. token (cond b t.null t.bad) ∷ l) (e refl) (in_word-ended r (e refl))
token_is t.bad r h e = absurd h
token_is x r h e = refl

comma_is : (b : Bool) (r : List ℕ) → lex between (cond b (44 ∷ []) [] ++ r) ≡ cond b (comma ∷ []) [] ++ lex between r
unfolding lex
comma_is true r = refl
comma_is false r = refl

print_is : (c : Bool) (ts : List Token) (r : List ℕ) → ArePrintable ts → ends_word r ≡ true → lex between (print_from c ts ++ r) ≡ lexemes c ts (lex between r)
unfolding print_from ArePrintable
print_is c [] r h e = refl
print_is c (x ∷ ts) r h e =
    let rest = print_from (ends x) ts in
    ap (lex between) (append_assoc (separator c x) (token_text x ++ rest) r ∙ ap (λ l. separator c x ++ l) (append_assoc (token_text x) rest r))
    ∙ comma_is (c && begins x) (token_text x ++ (rest ++ r))
    ∙ ap (λ l. cond (c && begins x) (comma ∷ []) [] ++ l)
    (token_is x (rest ++ r) h.0 (λ ended. ap (λ b. ends_word (print_from b ts ++ r)) ended ∙ value_ends ts r e)
    ∙ ap (λ l. lexemes_of x ++ l) (print_is (ends x) ts r h.1 e))

-- a line feed after them is nothing more
line_is : (ts : List Token) → ArePrintable ts → lex between (print ts ++ codes "\n") ≡ lex between (print ts)
unfolding lex
line_is ts h = print_is false ts (codes "\n") h refl ∙ sym (print_is false ts [] h refl) ∙ ap (lex between) (append-nil (print ts))

object_is : (j : Json) → HasNumbers j → depth j ≤ max_depth → document (print (json_tokens j) ++ codes "\n") ≡ Some j
object_is j numbers shallow =
    ap (λ ls. option_and_then (λ p. if_last p.0 p.1) (value max_depth (punctuate fresh ls))) (line_is (json_tokens j) (ArePrintable-json_tokens j numbers))
    ∙ document-print j numbers shallow

-- ---- what a writer holds after one write more, and of causes

pub then_more : (old mid a b : List Token) → mid ≡ old ++ a → mid ++ b ≡ old ++ (a ++ b)
then_more old mid a b is = ap (λ ts. ts ++ b) is ∙ append_assoc old a b

pub causes_are : (cs : List Cause) → items_tokens (items_of (map cause_value cs)) ≡ flat_map (λ c. json_tokens (cause_value c)) cs ++ t.end_array ∷ []
causes_are [] = refl
causes_are (c ∷ cs) = ap (λ ts. json_tokens (cause_value c) ++ ts) (causes_are cs)

abbrev Fits : Cause → Type 0
Fits c = c.generation < 2 ^ 64

-- they can be written, and nest no deeper than this
abbrev AreWritable : Items → Type 0
AreWritable js = ItemsHaveNumbers js × (items_depth js ≤ 1)

causes_are_writable : (cs : List Cause) → All Fits cs → AreWritable (items_of (map cause_value cs))
causes_are_writable [] small = (tt, omega arith)
causes_are_writable (c ∷ cs) small =
    let more = causes_are_writable cs (All-tail Fits c cs small) in
    (((tt, (tt, (IsNumber-decimal c.generation (All-head Fits c cs small), tt))), more.0), omega (arith, more.1))

first_is_writable : (v : Verdict) → AreWritable (first_values v)
first_is_writable (verdict.Changed name) = (((tt, tt), tt), omega arith)
first_is_writable v = (tt, omega arith)

asked_are_writable : (l : Limit) (e : Explanation) → All Fits e.causes.items → AreWritable (asked_values l e)
asked_are_writable limit.First e small = first_is_writable e.verdict
asked_are_writable limit.All e small = causes_are_writable e.causes.items small

-- ---- lines

pub lines_are_objects : LinesAreObjects
unfolding json_answer
lines_are_objects l target (Ok e) small =
    let asked = asked_are_writable l e small in
    object_is _ (tt, (tt, (asked.0, tt))) (omega (arith, asked.1))
lines_are_objects l target (Err e) small = object_is _ (tt, (tt, (tt, (tt, tt)))) (omega arith)

pub characters_tell_apart : CharactersTellApart
characters_tell_apart a b are = encodes_same a b are
