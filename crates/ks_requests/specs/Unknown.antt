-- The lines of a `.config` about names that its Kconfig doesn't declare.
use Rattle.std.specs.Prelude.{ℕ, List, [], ◌∷◌, ◌++◌, Option, Some, None, codes, flat_map, is_none, if◌then◌else◌}
use Rattle.ks_symbols.specs.Dialects.{KconfigText}
use Rattle.ks_symbols.specs.declared.kinds.Kind.{Kind}
use Rattle.ks_symbols.specs.Kconfig.{declared}
use Rattle.ks_symbols.specs.Lines.{lines}
use Rattle.ks_symbols.specs.Statements.{Statement, name_of, statement}

-- the name of a statement, where it is not declared
abbrev pub unknown_in : (List ℕ → Option Kind) → Option Statement → List (List ℕ)
unknown_in kinds None = []
unknown_in kinds (Some stated) = if is_none (kinds (name_of stated)) then name_of stated ∷ [] else []

-- the names of all such lines, in order
abbrev pub unknown_names : (List ℕ → Option Kind) → List (List ℕ) → List (List ℕ)
unknown_names kinds lines = flat_map (λ line. unknown_in kinds (statement line)) lines

abbrev pub unknown_line : List ℕ → List ℕ
unknown_line name = codes "unknown " ++ name ++ codes "\n"

-- a line for each
unfoldable pub unknown_lines : KconfigText → List ℕ → List ℕ
unknown_lines kconfig dotconfig = flat_map unknown_line (unknown_names (declared kconfig) (lines dotconfig))
