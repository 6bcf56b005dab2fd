use Rattle.ks_compare.proofs.Prelude.{◌≡◌, changed_companions}
use Rattle.std.specs.Prelude.{take}
use Rattle.ks_compare.proofs.bases.changed_companions.Given as goal

-- those of the names so far
abbrev pub invariant-loop-name : goal.invariant-loop-name
invariant-loop-name l = l.companions.items ≡ changed_companions l.old.texts l.new.entries (take l.name-index l.names)
