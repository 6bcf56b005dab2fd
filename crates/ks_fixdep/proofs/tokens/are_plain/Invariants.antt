use Rattle.ks_fixdep.proofs.Prelude.{◌≡◌, true, take, list_all, is_other}
use Rattle.ks_fixdep.proofs.tokens.are_plain.Given as goal

-- where those so far are plain, they are others
abbrev pub invariant-loop-byte : goal.invariant-loop-byte
invariant-loop-byte l = l.all ≡ true → list_all is_other (take l.byte-index l.bytes) ≡ true
