use Rattle.std.proofs.Common.{◌≡◌, drop, bytes_eq}
use Rattle.std.specs.List.{list_any}
use Rattle.ks_hidden.specs.Words.{texts}
use Rattle.ks_hidden.proofs.precompiled.is_named.Given as goal

-- it is one of those that are left, if it is one of them all
abbrev pub invariant-loop-other : goal.invariant-loop-other
invariant-loop-other l = list_any (bytes_eq l.directory) (texts (drop l.other-index l.directories)) ≡ list_any (bytes_eq l.directory) (texts l.directories)
