use Rattle.ks_symbols.proofs.Prelude.{◌≡◌, length, after_quote}
use Rattle.ks_symbols.proofs.line_kinds.after_quote.Given as goal

abbrev pub invariant-loop-rest : goal.invariant-loop-rest
invariant-loop-rest l = after_quote l.rest ≡ after_quote l.fn.text

abbrev pub decreases-loop-rest : goal.decreases-loop-rest
decreases-loop-rest l = length l.rest
