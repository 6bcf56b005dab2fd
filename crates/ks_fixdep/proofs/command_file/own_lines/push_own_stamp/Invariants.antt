use Rattle.ks_fixdep.proofs.Prelude.{◌≡◌, ◌++◌, map, take, name_mark}
use Rattle.ks_fixdep.specs.OwnLines.{own_byte}
use Rattle.ks_fixdep.proofs.command_file.own_lines.push_own_stamp.Given as goal

abbrev pub invariant-loop-byte : goal.invariant-loop-byte
invariant-loop-byte l = l.out.items ≡ l.fn.out.items ++ (name_mark ++ map own_byte (take l.byte-index l.name))
