use Rattle.std.proofs.Common.{◌≡◌, ◌<◌, ℕ, true}
use Rattle.ks_hidden.specs.Macros.{is_in, may_define}
use Rattle.ks_hidden.proofs.macros.defining_line.Given as goal

-- none is defined before
abbrev pub invariant-loop-at : goal.invariant-loop-at
invariant-loop-at l = (k : ℕ) → k < l.at → may_define (is_in l.macros) l.text k ≡ true → ⊥
