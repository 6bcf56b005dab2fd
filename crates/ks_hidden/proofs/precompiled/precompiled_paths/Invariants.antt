use Rattle.std.proofs.Common.{◌≡◌, take}
use Rattle.ks_hidden.specs.Precompiled.{is_among, precompiled_paths}
use Rattle.ks_hidden.specs.Words.{texts}
use Rattle.ks_hidden.proofs.precompiled.precompiled_paths.Given as goal

abbrev pub invariant-loop-name : goal.invariant-loop-name
invariant-loop-name l =
    texts l.paths.items ≡ precompiled_paths (is_among l.listed) (texts l.directories.first.items) (texts l.directories.searched.items) (texts (take l.name-index l.names))
