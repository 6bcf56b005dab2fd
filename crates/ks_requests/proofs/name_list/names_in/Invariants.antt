use Rattle.ks_requests.proofs.Prelude.{◌≡◌, ◌++◌, true, lines}
use Rattle.std.specs.List.{list_all}
use Rattle.ks_symbols.specs.Names.{is_name}
use Rattle.ks_requests.proofs.name_list.names_in.Given as goal

-- the names so far, and the lines that are left, are all of them
abbrev pub invariant-loop-line : goal.invariant-loop-line
invariant-loop-line l = record { rest : l.names.items ++ l.line-iterator ≡ lines l.fn.text; all : list_all is_name l.names.items ≡ true }
