-- Steps of the walk over .config and the header of BusyBox's conf.
use Rattle.ks_output.proofs.Prelude.{append_assoc, ◌≡◌, ◌⊎◌, ◌+◌, ◌++◌, ◌∷◌, ◌&&◌, [], inl, inr, codes, Ok, Configuration, ℕ, List, Option, Some, None, true, false, sym, ap, ◌∙◌, nat_eq, length, drop, starts_with, cond-true, cond-false, is_name, Assigns, Statement, statement, statements_are_spelled, option_map}
use Rattle.std.specs.Prelude.{Err, Result, IfSome, IsTrue, take_while, ◌==◌}
use Rattle.ks_symbols.specs.Statements.{Unsets, name_of, seen_statement}
use Rattle.ks_symbols.specs.declared.statements.Statement as dotconfig
use Rattle.ks_output.specs.Blocks.{Walk, block_heading, go_on, header_body, header_front, is_between, is_time_byte, with_line, with_lines}
use Rattle.ks_output.specs.declared.written.WrittenError.{WrittenError}
use Rattle.ks_output.specs.declared.written.WrittenError.TheVariants as fault

name_is_legal : (line : List ℕ) (s : Statement) → statement line ≡ Some s → is_name (name_of s) ≡ true
name_is_legal line (Assigns name value) e = ((statements_are_spelled _ _).0 e).0
name_is_legal line (Unsets name) e = ((statements_are_spelled _ _).0 e).0

pub named_statement : (line : List ℕ) (o : Option dotconfig.Statement) → option_map seen_statement o ≡ statement line → IfSome o (λ s. IsTrue (is_name (name_of (seen_statement s))))
named_statement line None e = tt
named_statement line (Some s) e = name_is_legal line (seen_statement s) (sym e)

pub no_body : (title header : List ℕ) → starts_with nat_eq header (block_heading title header) ≡ false → header_body title header ≡ None
unfolding header_body
no_body title header e = cond-false _ _ _ e

pub body_behind : (title header : List ℕ) → starts_with nat_eq header (block_heading title header) ≡ true
    → header_body title header ≡ Some (drop (length (block_heading title header)) header)
unfolding header_body
body_behind title header e = cond-true _ _ _ e

-- the heading, as it is written piece by piece
pub heading_spelled : (title header front time all : List ℕ) → front ≡ header_front title → time ≡ take_while is_time_byte (drop (length front) header)
    → all ≡ front ++ (time ++ codes "\"\n\n") → all ≡ block_heading title header
heading_spelled title header front time all f t a =
    a ∙ sym (append_assoc front time (codes "\"\n\n")) ∙ ap (λ x. (front ++ x) ++ codes "\"\n\n") t
    ∙ ap (λ y. (y ++ take_while is_time_byte (drop (length y) header)) ++ codes "\"\n\n") f

pub behind_heading : (title header all : List ℕ) → all ≡ block_heading title header → starts_with nat_eq header all ≡ true
    → header_body title header ≡ Some (drop (length all) header)
behind_heading title header all is e =
    body_behind title header (ap (starts_with nat_eq header) (sym is) ∙ e) ∙ ap (λ x. Some (drop (length x) header)) (sym is)

-- one line further on
pub goes_on : (n : ℕ) (w later : Walk) (l : List ℕ) (ls : List (List ℕ)) → with_line n w l w.place ≡ Ok later → with_lines n w (l ∷ ls) ≡ with_lines (n + 1) later ls
unfolding with_lines
goes_on n w later l ls e = ap (λ r. go_on r (λ after. with_lines (n + 1) after ls)) e

stops : (n : ℕ) (w : Walk) (l : List ℕ) (ls : List (List ℕ)) (x : WrittenError) → with_line n w l w.place ≡ Err x → with_lines n w (l ∷ ls) ≡ Err x
unfolding with_lines
stops n w l ls x e = ap (λ r. go_on r (λ after. with_lines (n + 1) after ls)) e

-- a line that is refused, or for which memory is wanting
pub taken_wrong : (n : ℕ) (w : Walk) (l : List ℕ) (ls : List (List ℕ)) (all : Result Configuration WrittenError) (memory x : WrittenError)
    → with_lines n w (l ∷ ls) ≡ all → (x ≡ memory) ⊎ (with_line n w l w.place ≡ Err x) → (x ≡ memory) ⊎ (all ≡ Err x)
taken_wrong n w l ls all memory x is (inl e) = inl e
taken_wrong n w l ls all memory x is (inr e) = inr (sym is ∙ stops n w l ls x e)

pub ended : (n : ℕ) (w : Walk) → (is_between w.place && length w.left == 0) ≡ true → with_lines n w [] ≡ Ok w.settings
unfolding with_lines
ended n w e = cond-true _ _ _ e

pub undeclared : (n : ℕ) (w : Walk) → (is_between w.place && length w.left == 0) ≡ false → with_lines n w [] ≡ Err (fault.Undeclared n)
unfolding with_lines
undeclared n w e = cond-false _ _ _ e
