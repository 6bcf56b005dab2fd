-- The names that a file holds, one a line.
use Rattle.std.specs.Prelude.{◌+◌, ℕ, List, Result, Ok, Err, if◌then◌else◌}
use Rattle.std.specs.List.{list_all, prefix_len}
use Rattle.ks_symbols.specs.Lines.{lines}
use Rattle.ks_symbols.specs.Names.{is_name}
use Rattle.ks_symbols.specs.declared.error.SourceError.TheVariants.{BadName}
use Rattle.ks_engine.specs.declared.error.EngineError.{EngineError}
use Rattle.ks_engine.specs.declared.error.EngineError.TheVariants.{Source}

-- all lines, if each is a name, or the first that is none
unfoldable pub names_in : List ℕ → Result (List (List ℕ)) EngineError
names_in text = if list_all is_name (lines text) then Ok (lines text) else Err (Source (BadName (prefix_len is_name (lines text) + 1)))
