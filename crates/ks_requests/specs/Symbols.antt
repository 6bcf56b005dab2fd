-- The questions by symbol: which symbol a word asks for, and the lines that answer. Their form is this project's.
use Rattle.std.specs.Prelude.{ℕ, List, String, ◌++◌, codes, drop, map, nat_eq, string_bytes, if◌then◌else◌}
use Rattle.std.specs.List.{starts_with}
use Rattle.ks_requests.specs.Faults.{counted}

-- the name, or what follows CONFIG_
abbrev pub symbol_of : List ℕ → List ℕ
symbol_of word = if starts_with nat_eq word (codes "CONFIG_") then drop 7 word else word

-- .. of these arguments
abbrev pub symbols_of : {Y : Type 0} → List (String Y) → List (List ℕ)
symbols_of args = map (λ w. symbol_of (string_bytes w)) args

-- an object that names a symbol, the symbol, and the file that brought it in
unfoldable pub use_line : List ℕ → List ℕ × List ℕ → List ℕ
use_line target (name, place) = target ++ codes " " ++ name ++ codes " " ++ place ++ codes "\n"

-- an object without a command file
unfoldable pub unrecorded_line : List ℕ → List ℕ
unrecorded_line target = target ++ codes " no-command-file\n"

-- a symbol, and how many objects name it
unfoldable pub cost_line : List ℕ × ℕ → List ℕ
cost_line (name, count) = name ++ counted (codes " ") count ++ codes "\n"
