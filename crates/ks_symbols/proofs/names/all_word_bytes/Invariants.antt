use Rattle.ks_symbols.proofs.Prelude.{◌≡◌, take, list_all, is_word_byte}
use Rattle.ks_symbols.proofs.names.all_word_bytes.Given as goal

-- whether the bytes so far pass
abbrev pub invariant-loop-byte : goal.invariant-loop-byte
invariant-loop-byte l = l.all ≡ list_all is_word_byte (take l.byte-index l.bytes)
