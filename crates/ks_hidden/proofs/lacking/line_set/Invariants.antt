use Rattle.std.proofs.Common.{◌≡◌, ◌||◌, ℕ, List, bytes_eq}
use Rattle.indexmap.specs.IndexSet.{contains_by}
use Rattle.ks_symbols.specs.Lines.{lines}
use Rattle.ks_hidden.specs.HeaderLines.{has_line}
use Rattle.ks_hidden.proofs.lacking.line_set.Given as goal

-- a line of the header is in the set or left
abbrev pub invariant-loop-line : goal.invariant-loop-line
invariant-loop-line l = (x : List ℕ) → (contains_by (λ k. bytes_eq x k.now) l.held || has_line l.line-iterator x) ≡ has_line (lines l.fn.header) x
