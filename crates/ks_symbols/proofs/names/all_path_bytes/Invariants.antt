use Rattle.ks_symbols.proofs.Prelude.{◌≡◌, ◌≤◌, ◌-◌, length, take, list_all, is_path_byte}
use Rattle.ks_symbols.proofs.names.all_path_bytes.Given as goal

-- whether the bytes so far pass
abbrev pub invariant-loop-start : goal.invariant-loop-start
invariant-loop-start l = record {
  all : l.all ≡ list_all is_path_byte (take l.start l.bytes);
  within : l.start ≤ length l.bytes;
}

abbrev pub decreases-loop-start : goal.decreases-loop-start
decreases-loop-start l = length l.bytes - l.start
