use Rattle.ks_output.proofs.Prelude.{◌≡◌, ◌+◌, length, min, heading, entry_lines}
use Rattle.std.specs.FinMap as map
use Rattle.ks_output.proofs.auto_text.auto_len.Given as goal

-- the bytes so far and those of the entries that are left
abbrev pub invariant-loop-name : goal.invariant-loop-name
invariant-loop-name l =
    min (l.len + length (entry_lines l.name-iterator)) 18446744073709551615
    ≡ min (length (heading l.fn.title) + length (entry_lines (map.entries l.fn.settings.entries))) 18446744073709551615
