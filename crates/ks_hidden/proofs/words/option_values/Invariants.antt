use Rattle.std.proofs.Common.{◌≡◌, ◌++◌, drop, map}
use Rattle.ks_hidden.specs.Words.{option_values, texts}
use Rattle.ks_hidden.proofs.words.option_values.Given as goal

-- with what the words that are left give it is the whole
abbrev pub invariant-loop-place : goal.invariant-loop-place
invariant-loop-place l = texts l.values.items ++ option_values (map (λ n. n.now) l.names) (texts (drop l.place l.words)) ≡ option_values (map (λ n. n.now) l.names) (texts l.words)
