use Rattle.ks_commands.proofs.Prelude.{◌≡◌, ◌++◌, flat_map, take, difference_line}
use Rattle.ks_commands.proofs.differences.write_changes.Given as goal

abbrev pub invariant-loop-name : goal.invariant-loop-name
invariant-loop-name l = l.text.items ≡ l.initial.text.items ++ flat_map (difference_line l.old.texts l.new.entries) (take l.name-index l.names)
