-- The symbols that a question asks for, in the order in which a name is looked for.
use Rattle.std.specs.Prelude.{ℕ, List, map}
use Rattle.ks_commands.specs.declared.asked_symbols.AskedSymbols.{AskedSymbols}

abbrev pub symbols_in : AskedSymbols → List (List ℕ)
symbols_in asked = map (λ s. s.now) asked.symbols.items
