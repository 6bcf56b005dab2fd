-- A text that grows at its end.
use Rattle.std.specs.Prelude.{◌≡◌, ◌++◌, ℕ, List, flat_map, map}
use Rattle.std.specs.Borrow.{Bor}
use Rattle.ks_fixdep.specs.declared.command_file.Dep.{Dep}
use Rattle.ks_fixdep.specs.CommandFile.{dep_line, ended}

-- the parts, one after the other
abbrev pub joined : List (Bor (List ℕ)) → List ℕ
joined parts = flat_map (λ p. p.now) parts

-- new begins with old
pub record Extends (old new : List ℕ) : Type 0 where
  pub more : List ℕ
  pub is : new ≡ old ++ more

-- the lines of the dependencies, with their ends
abbrev pub deps_text : List Dep → List ℕ
deps_text deps = flat_map ended (map dep_line deps)
