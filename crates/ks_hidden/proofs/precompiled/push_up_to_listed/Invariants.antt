use Rattle.std.proofs.Common.{◌≡◌, ◌++◌, map, drop, List, ℕ}
use Rattle.ks_hidden.specs.Precompiled.{beside, is_among, precompiled, up_to_listed}
use Rattle.ks_hidden.specs.Words.{texts}
use Rattle.ks_hidden.proofs.precompiled.push_up_to_listed.Given as goal

-- with those in the directories that are left they are all
abbrev pub invariant-loop-place : goal.invariant-loop-place
invariant-loop-place l =
    let found = λ (directories : List (List ℕ)). map precompiled (map (beside l.name) (up_to_listed (is_among l.listed) l.name directories)) in
    texts l.paths.items ++ found (texts (drop l.place l.directories)) ≡ texts l.fn.paths.items ++ found (texts l.directories)
