-- The first fault of lines, and refusals.
use Rattle.ks_symbols.proofs.Prelude.{◌≡◌, ℕ, ◌+◌, ◌≤◌, cond, List, ◌∷◌, length, Option, Some, cond-false, nat_tests, sum_by-cons, Kind, SourceError, lines, first_fault, dotconfig_refusal, line_fault, is_of_unknown, unknown_count, IsRefusal, statement, rules, ⊎_elim}
use Rattle.ks_symbols.specs.declared.error.SourceError.TheVariants as fault

-- an error that is the refusal f is also the refusal g, where g follows from f
pub refused : (e : SourceError) (f g : Option SourceError) → (f ≡ Some e → g ≡ Some e) → IsRefusal fault.OutOfMemory e f → IsRefusal fault.OutOfMemory e g
refused e f g h r = search (rules, ⊎_elim)

pub not_large : (kinds : List ℕ → Option Kind) (text : List ℕ) → length text ≤ 67108864 → dotconfig_refusal kinds text
    ≡ first_fault (line_fault kinds) 1 (lines text)
unfolding dotconfig_refusal
not_large kinds text small = search (rules, nat_tests, cond-false)

pub unknown-cons : (kinds : List ℕ → Option Kind) (line : List ℕ) (rest : List (List ℕ))
    → unknown_count kinds (line ∷ rest) ≡ (cond (is_of_unknown kinds (statement line)) 1 0) + unknown_count kinds rest
unknown-cons kinds line rest = sum_by-cons (λ l. cond (is_of_unknown kinds (statement l)) 1 0) line rest
