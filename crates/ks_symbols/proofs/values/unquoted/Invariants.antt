use Rattle.ks_symbols.proofs.Prelude.{◌≡◌, ◌++◌, length, option_map, unquoted, unquoted_rest}
use Rattle.ks_symbols.proofs.values.unquoted.Given as goal

-- the text so far and what is left to read are the text of the whole
abbrev pub invariant-loop-rest : goal.invariant-loop-rest
invariant-loop-rest l = option_map (λ t. l.text.items ++ t) (unquoted_rest l.rest) ≡ unquoted l.fn.written

abbrev pub decreases-loop-rest : goal.decreases-loop-rest
decreases-loop-rest l = length l.rest
