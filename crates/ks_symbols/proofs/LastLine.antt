-- What a line does to what was read before it, and what the last line about a name leaves.
use Rattle.ks_symbols.proofs.Prelude.{◌≡◌, ℕ, cond, List, [], ◌∷◌, reverse, Option, Some, None, bytes_eq, refl, bytes_decides, reverse_onto, Kind, Statement, name_of, statement, is_about, gives, setting, after_statement, rules, arith, lines, find-append}
use Rattle.std.specs.List.{find}

-- a statement about a declared symbol changes that symbol alone
pub declared_after : (kinds : List ℕ → Option Kind) (k : Kind) (stated : Statement) → kinds (name_of stated) ≡ Some k
    → (x : List ℕ) (before : Option (Kind × List ℕ)) → cond (bytes_eq (name_of stated) x) (gives k (Some stated)) before
    ≡ after_statement (kinds x) x (Some stated) before
declared_after kinds k stated is x before = grind (arith, bytes_decides)

-- what a name of a kind has after lines, when it had something before
unfoldable pub settled : Option Kind → List ℕ → Option (Kind × List ℕ) → List (List ℕ) → Option (Kind × List ℕ)
settled k x before [] = before
settled k x before (line ∷ lines) = settled k x (after_statement k x (statement line) before) lines

chosen : Kind → Option (Kind × List ℕ) → Option (List ℕ) → Option (Kind × List ℕ)
chosen k before None = before
chosen k before (Some line) = gives k (statement line)

settled_last : (k : Kind) (x : List ℕ) (before : Option (Kind × List ℕ)) (lines : List (List ℕ))
    → settled (Some k) x before lines ≡ chosen k before (find (is_about x) (reverse lines))
unfolding settled chosen
settled_last k x before [] = refl
settled_last k x before (line ∷ lines) =
    grind (arith, find-append, reverse_onto, (settled_last k x (after_statement (Some k) x (statement line) before) lines))

never : (x : List ℕ) (before : Option (Kind × List ℕ)) (lines : List (List ℕ)) → settled None x before lines ≡ before
unfolding settled
never x before [] = refl
never x before (line ∷ lines) = never x before lines

-- it is what the last line about the name gives
pub settled-setting : (kinds : List ℕ → Option Kind) (x : List ℕ) (lines : List (List ℕ)) → settled (kinds x) x None lines ≡ setting kinds lines x
unfolding setting chosen
settled-setting kinds x lines = search (rules, settled, never, settled_last)
