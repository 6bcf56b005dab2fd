use Rattle.std.proofs.Common.{◌≡◌, ◌+◌, drop}
use Rattle.ks_hidden.specs.Macros.{defining_from, is_in}
use Rattle.ks_hidden.specs.Words.{texts}
use Rattle.ks_hidden.proofs.macros.first_defining.Given as goal

-- the words that are left have the first such one of them all
abbrev pub invariant-loop-place : goal.invariant-loop-place
invariant-loop-place l = defining_from (is_in l.macros) (l.place + 1) (texts (drop l.place l.words)) ≡ defining_from (is_in l.macros) 1 (texts l.words)
