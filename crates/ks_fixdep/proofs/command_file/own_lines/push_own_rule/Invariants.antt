use Rattle.ks_fixdep.proofs.Prelude.{◌≡◌, ◌++◌, map, take, flat_map, ended, codes}
use Rattle.ks_fixdep.specs.OwnLines.{own_stamp_line}
use Rattle.ks_fixdep.proofs.command_file.own_lines.push_own_rule.Given as goal

abbrev pub invariant-loop-name : goal.invariant-loop-name
invariant-loop-name l = l.out.items ≡ l.fn.out.items ++ (ended (l.target ++ codes ": \\") ++ flat_map ended (map own_stamp_line (take l.name-index l.names)))
