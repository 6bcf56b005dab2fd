use Rattle.std.proofs.Common.{◌≡◌}
use Rattle.std.specs.List.{list_any}
use Rattle.ks_symbols.specs.Lines.{lines}
use Rattle.ks_hidden.specs.HeaderLines.{is_lacking, lacks}
use Rattle.ks_hidden.proofs.lacking.lacks_definition.Given as goal

-- the entries that are left lack a definition where the whole does
abbrev pub invariant-loop-name : goal.invariant-loop-name
invariant-loop-name l = list_any (λ e. is_lacking (lines l.fn.header) e) l.name-iterator ≡ lacks l.fn.config.texts l.fn.header
