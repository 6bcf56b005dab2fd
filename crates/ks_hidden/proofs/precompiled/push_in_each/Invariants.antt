use Rattle.std.proofs.Common.{◌≡◌, ◌++◌, map, take}
use Rattle.ks_hidden.specs.Precompiled.{beside, precompiled}
use Rattle.ks_hidden.specs.Words.{texts}
use Rattle.ks_hidden.proofs.precompiled.push_in_each.Given as goal

abbrev pub invariant-loop-directory : goal.invariant-loop-directory
invariant-loop-directory l = texts l.paths.items ≡ texts l.fn.paths.items ++ map precompiled (map (beside l.name) (texts (take l.directory-index l.directories)))
