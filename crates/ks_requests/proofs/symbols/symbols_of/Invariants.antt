use Rattle.ks_requests.proofs.Prelude.{◌≡◌, map, string_bytes, take, symbol_of}
use Rattle.ks_requests.proofs.symbols.symbols_of.Given as goal

abbrev pub invariant-loop-word : goal.invariant-loop-word
invariant-loop-word l = map (λ s. s.now) l.symbols.items ≡ map (λ w. symbol_of (string_bytes w)) (take l.word-index l.args)
