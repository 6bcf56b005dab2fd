use Rattle.std.proofs.Common.{◌≡◌, drop, map}
use Rattle.ks_hidden.specs.Arguments.{is_one_of}
use Rattle.ks_hidden.proofs.arguments.is_one_of.Given as goal

-- it does so with one of those that are left, if with one of them all
abbrev pub invariant-loop-text : goal.invariant-loop-text
invariant-loop-text l = is_one_of (map (λ t. t.now) (drop l.text-index l.texts)) l.word ≡ is_one_of (map (λ t. t.now) l.texts) l.word
