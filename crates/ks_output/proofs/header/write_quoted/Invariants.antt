use Rattle.ks_output.proofs.Prelude.{◌≡◌, ◌++◌, ◌∷◌, take, flat_map, escape}
use Rattle.ks_output.proofs.header.write_quoted.Given as goal

-- the quote and the bytes so far
abbrev pub invariant-loop-byte : goal.invariant-loop-byte
invariant-loop-byte l = l.out.items ≡ l.fn.out.items ++ 34 ∷ flat_map escape (take l.byte-index l.text)
