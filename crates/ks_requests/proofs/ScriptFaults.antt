-- The first fault of lines, and refusals.
use Rattle.ks_requests.proofs.Prelude.{cond_some, ◌≡◌, inl, inr, ℕ, ◌+◌, ◌<◌, ◌≤◌, Bool, true, false, cond, nat_lt, List, [], ◌∷◌, ◌++◌, length, Option, Some, None, option_map, refl, ap, arith, cons_option, position_from, cond-true, cond-false, nat_tests, lines, max_bytes, ScriptError, is_faulty, line_fault, script_refusal, IsRefusal, rules}
use Rattle.ks_requests.specs.declared.script_error.ScriptError.TheVariants as fault

passed : (b : Bool) (e : ScriptError) → cond b (Some e) None ≡ None → b ≡ false
passed true e h = absurd (cc h)
passed false e h = refl

pub no_fault : (n : ℕ) (line : List ℕ) (rest : List (List ℕ)) → line_fault n line ≡ None → position_from is_faulty n (line ∷ rest)
    ≡ position_from is_faulty (n + 1) rest
unfolding line_fault
no_fault n line rest none = cond-false (is_faulty line) _ _ (passed (is_faulty line) (fault.BadScript n) none)

pub fault_here : (n : ℕ) (line : List ℕ) (rest : List (List ℕ)) (e : ScriptError) → line_fault n line ≡ Some e
    → option_map fault.BadScript (position_from is_faulty n (line ∷ rest)) ≡ Some e
unfolding line_fault
fault_here n line rest e is = search (rules, cond_some, cond-true)

-- an error that is the refusal f is also the refusal g, where g follows from f
pub refused : (e : ScriptError) (f g : Option ScriptError) → (f ≡ Some e → g ≡ Some e) → IsRefusal fault.OutOfMemory e f → IsRefusal fault.OutOfMemory e g
refused e f g h (inl memory) = inl memory
refused e f g h (inr r) = inr (h r)

pub too_large : (text : List ℕ) → 67108864 < length text → script_refusal text ≡ Some fault.TooLarge
unfolding script_refusal
too_large text large = cond-true (nat_lt max_bytes (length text)) _ _ (grind (arith, nat_tests))

pub not_large : (text : List ℕ) → length text ≤ 67108864 → script_refusal text ≡ option_map fault.BadScript (position_from is_faulty 1 (lines text))
unfolding script_refusal
not_large text small = cond-false (nat_lt max_bytes (length text)) _ _ (grind (arith, nat_tests))

pub option_append : {X : Type 0} (xs : List X) (o : Option X) (rest : List X) → (xs ++ cons_option o []) ++ rest ≡ xs ++ cons_option o rest
option_append [] None rest = refl
option_append [] (Some x) rest = refl
option_append (y ∷ ys) o rest = ap (λ l. y ∷ l) (option_append ys o rest)
