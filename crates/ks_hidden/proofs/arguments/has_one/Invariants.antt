use Rattle.std.proofs.Common.{◌≡◌, drop, map}
use Rattle.ks_hidden.specs.Arguments.{has_one}
use Rattle.ks_hidden.proofs.arguments.has_one.Given as goal

-- it has one of those that are left, if one of them all
abbrev pub invariant-loop-text : goal.invariant-loop-text
invariant-loop-text l = has_one (map (λ t. t.now) (drop l.text-index l.texts)) l.word ≡ has_one (map (λ t. t.now) l.texts) l.word
