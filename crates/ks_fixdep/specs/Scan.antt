-- Where a source text names a symbol of the configuration (scripts/basic/fixdep.c; that the scan goes on after a NUL byte is a rule of this project).
use Rattle.std.specs.Prelude.{codes, ℕ, ◌+◌, List, [], ◌∷◌, ◌++◌, Option, Some, None, drop, take, slice_index, if◌then◌else◌}
use Rattle.std.specs.List.{take_while}
use Rattle.std.specs.Str.{bytes_eq}
use Rattle.ks_symbols.specs.Names.{is_word_byte, is_name, without_module}

-- `CONFIG_`
abbrev pub prefix : List ℕ
prefix = codes "CONFIG_"

-- the byte before place i, and 0 before the first
abbrev pub byte_before : List ℕ → ℕ → ℕ
byte_before t i = slice_index (0 ∷ t) i

-- the name of a run: the run without one final `_MODULE`, where that is a legal name
unfoldable pub name_of : List ℕ → Option (List ℕ)
name_of run = if is_name (without_module run) then Some (without_module run) else None

-- the name of a whole word: that of the run after `CONFIG_`, where it begins so
unfoldable pub name_of_word : List ℕ → Option (List ℕ)
name_of_word w = if bytes_eq (take 7 w) prefix then name_of (drop 7 w) else None

-- a name, unless the byte before it is a word byte
abbrev pub begun : ℕ → Option (List ℕ) → Option (List ℕ)
begun before name = if is_word_byte before then None else name

-- a place in a text, and the name there
pub record NameAt : Type 0 where
  pub place : ℕ
  pub name : List ℕ

-- a name at place i, or nothing
abbrev pub placed : ℕ → Option (List ℕ) → List NameAt
placed i None = []
placed i (Some x) = record { place = i; name = x } ∷ []

-- the names of a text that stands at place i after the byte `before`: at each place where a word begins, the name of that word
unfoldable pub names_after : ℕ → ℕ → List ℕ → List NameAt
names_after before i [] = []
names_after before i (b ∷ t) = placed i (begun before (name_of_word (take_while is_word_byte (b ∷ t)))) ++ names_after b (i + 1) t

-- all names of a text, by rising place; its first byte stands after none
abbrev pub taken : List ℕ → List NameAt
taken t = names_after 0 0 t

-- a name without its place
abbrev pub bare_name : NameAt → List ℕ
bare_name x = x.name
