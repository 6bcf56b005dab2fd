use Rattle.ks_fixdep.proofs.Prelude.{Known, Knows, known_after, ◌≡◌, ◌≤◌, ◌-◌, length, take}
use Rattle.ks_fixdep.proofs.word_scan.WordScan.feed.Given as goal

-- as much is known as of the bytes so far
abbrev pub invariant-loop-place : goal.invariant-loop-place
invariant-loop-place l = record {
  fits : l.place ≤ length l.piece;
  found : l.table.found ≡ l.fn.table.found;
  knows : (k : Known) → Knows l.fn.self l.fn.table k → Knows l.self l.table (known_after l.symbol_patterns k (take l.place l.piece));
}

abbrev pub decreases-loop-place : goal.decreases-loop-place
decreases-loop-place l = length l.piece - l.place
