-- What one line of a `.config` does to the setting of a name. `DotConfig` says what a whole text means.
use Rattle.std.specs.Prelude.{ℕ, List, Option, Some, None, if◌then◌else◌}
use Rattle.ks_symbols.specs.declared.kinds.Kind.{Kind}
use Rattle.ks_symbols.specs.Statements.{Statement, is_of}
use Rattle.ks_symbols.specs.DotConfig.{gives}

-- what a symbol of a kind, if it is declared, has after a statement, when it had something before
abbrev pub after_statement : Option Kind → List ℕ → Option Statement → Option (Kind × List ℕ) → Option (Kind × List ℕ)
after_statement None name stated before = before
after_statement (Some k) name stated before = if is_of name stated then gives k stated else before
