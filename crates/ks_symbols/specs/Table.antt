-- Tables: the records of names, the map that lines make of each other, and the entries of a map.
use Rattle.std.specs.Prelude.{ℕ, Bool, false, List, [], ◌∷◌, Option, Some, None, cond, option_map, slice_index, slice_range, bytes_eq, ◌≤◌, ◌≡◌, ◌+◌, ◌*◌}
use Rattle.std.specs.List.{All}
use Rattle.std.specs.Ordering.{nat_cmp, ordering_then}
use Rattle.std.specs.Cmp.Lexicographic.{slice_cmp}
use Rattle.std.specs.declared.cmp.Ordering.{Ordering}
use Rattle.std.specs.Borrow.{Bor}
use Rattle.std.specs.FinMap as map
use Rattle.ks_symbols.specs.Configuration.{NameMap}
use Rattle.ks_symbols.specs.declared.table.Record.{Record}

-- a record's name and text, which lie in the bytes
abbrev pub name_in : {V : Type 0} → List ℕ → Record V → List ℕ
name_in bytes r = slice_range bytes r.start r.middle

abbrev pub text_in : {V : Type 0} → List ℕ → Record V → List ℕ
text_in bytes r = slice_range bytes r.middle r.end

abbrev pub entry_in : {V : Type 0} → List ℕ → Record V → List ℕ × (V × List ℕ)
entry_in bytes r = (name_in bytes r, (r.value, text_in bytes r))

-- what the record of a line says: a name, and what it gets, if it gets something
abbrev pub stated_in : {V : Type 0} → List ℕ → Record (Option V) → List ℕ × Option (V × List ℕ)
stated_in bytes r = (name_in bytes r, option_map (λ v. (v, text_in bytes r)) r.value)

-- All names and texts lie in the first n bytes.
abbrev pub LieIn : {V : Type 0} → ℕ → List (Record V) → Type 0
LieIn n [] = Unit {0}
LieIn n (r ∷ rs) = (r.middle ≤ n) × (r.end ≤ n) × LieIn n rs

-- the first four bytes of a name as one number, 0 where there is none
abbrev pub head_of : List ℕ → ℕ
head_of name = (slice_index name 0 * 256 + slice_index name 1) * 65536 + (slice_index name 2 * 256 + slice_index name 3)

-- Each record has the head of its name.
abbrev pub AreHeaded : {V : Type 0} → List ℕ → List (Record V) → Type 0
AreHeaded bytes rs = All (λ r. r.head ≡ head_of (name_in bytes r)) rs

-- how records stand to each other by their heads, and then by their names
abbrev pub by_heads : {V : Type 0} → List ℕ → Record V → Record V → Ordering
by_heads bytes a b = ordering_then (nat_cmp a.head b.head) (slice_cmp nat_cmp (name_in bytes a) (name_in bytes b))

-- the map after a line, which gives a name something or takes away what it had
abbrev pub after_line : {X : Type 0} → NameMap X → List ℕ → Option X → NameMap X
after_line m x None = map.remove m x
after_line m x (Some s) = map.insert m x s

-- and after several lines, one by one
unfoldable pub after_lines : {X : Type 0} → NameMap X → List (List ℕ × Option X) → NameMap X
after_lines m [] = m
after_lines m (e ∷ es) = after_lines (after_line m e.0 e.1) es

-- Of lines in the order of their names: the last one about each name, if it gives the name something
abbrev pub begins_with : {Y : Type 0} → List ℕ → List (List ℕ × Y) → Bool
begins_with x [] = false
begins_with x (e ∷ es) = bytes_eq x e.0

abbrev pub with_entry : {X : Type 0} → List ℕ → Option X → List (List ℕ × X) → List (List ℕ × X)
with_entry x None es = es
with_entry x (Some s) es = (x, s) ∷ es

unfoldable pub last_ones : {X : Type 0} → List (List ℕ × Option X) → List (List ℕ × X)
last_ones [] = []
last_ones (e ∷ es) = cond (begins_with e.0 es) (last_ones es) (with_entry e.0 e.1 (last_ones es))

-- a row as it is borrowed
abbrev pub borrowed_row : {V : Type 0} → Bor (List ℕ) × V × Bor (List ℕ) → List ℕ × (V × List ℕ)
borrowed_row e = (e.0.now, (e.1, e.2.now))
