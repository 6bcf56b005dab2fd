use Rattle.ks_compare.proofs.Prelude.{◌≡◌, ◌++◌, AllEntries, IsTrue, is_name}
use Rattle.std.proofs.Common.{map as map_list}
use Rattle.std.specs.FinMap as map
use Rattle.ks_compare.proofs.bases.names_of.Given as goal

-- the names so far and those of the rows that are left
abbrev pub invariant-loop-name : goal.invariant-loop-name
invariant-loop-name l = record {
  names : l.names.items ++ map_list (λ e. e.0) l.name-iterator ≡ map_list (λ e. e.0) (map.entries l.fn.table);
  legal : AllEntries (λ n _. IsTrue (is_name n)) l.name-iterator;
}
