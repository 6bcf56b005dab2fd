use Rattle.ks_fixdep.proofs.Prelude.{◌≡◌, ◌++◌, codes, flat_map, tokens}
use Rattle.ks_fixdep.specs.Placed.{placed_in, placed_token}
use Rattle.ks_fixdep.proofs.placed.placed_text.Given as goal

-- with the tokens that are left it is the whole
abbrev pub invariant-loop-token : goal.invariant-loop-token
invariant-loop-token l = l.placed.items ++ flat_map (λ x. placed_token l.directory x ++ codes " ") (tokens l.token-iterator.rest.now) ≡ placed_in l.directory l.text
