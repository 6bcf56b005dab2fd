-- What a writer leaves of a vector that it appends to, and how much room it asks for.
use Rattle.std.specs.Prelude.{◌≡◌, ◌+◌, ℕ, List, length, sum_by, take}
use Rattle.ks_symbols.specs.declared.kinds.Kind.{Kind}

-- the old bytes stand in front of the new ones
abbrev pub Keeps : List ℕ → List ℕ → Type 0
Keeps old new = take (length old) new ≡ old

-- room for the definitions of entries: at most 25 bytes beside a name and its text, but for escapes
abbrev pub definitions_capacity : List (List ℕ × (Kind × List ℕ)) → ℕ
definitions_capacity entries = sum_by (λ e. length e.0 + length e.1.1 + 25) entries
