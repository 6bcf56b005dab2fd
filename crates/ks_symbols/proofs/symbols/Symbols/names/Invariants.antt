use Rattle.ks_symbols.proofs.Prelude.{◌≡◌, ◌++◌, ℕ, List, IsTrue, All, is_some, is_in, is_name}
use Rattle.std.specs.FinMap as map
use Rattle.ks_symbols.proofs.Listed.{names_of}
use Rattle.ks_symbols.proofs.symbols.Symbols.names.Given as goal

-- with the names of the rows that are left these are all, and those are legal
abbrev pub invariant-loop-name : goal.invariant-loop-name
invariant-loop-name l = record {
  all : (x : List ℕ) → is_in (l.names.items ++ names_of l.name-iterator) x ≡ is_some (map.get l.fn.self.kinds x);
  legal : All (λ e. IsTrue (is_name e.0)) l.name-iterator;
}
