use Rattle.ks_fixdep.proofs.Prelude.{◌≡◌, ◌++◌, map, take, flat_map, ended}
use Rattle.ks_fixdep.specs.OwnLines.{stamp_line_of}
use Rattle.ks_fixdep.proofs.command_file.own_lines.push_stamps_of.Given as goal

abbrev pub invariant-loop-name : goal.invariant-loop-name
invariant-loop-name l = l.out.items ≡ l.fn.out.items ++ flat_map ended (map (stamp_line_of l.tree) (take l.name-index l.names))
