use Rattle.std.proofs.Common.{◌≡◌, drop, map}
use Rattle.ks_hidden.specs.Arguments.{ends_with_one}
use Rattle.ks_hidden.proofs.arguments.ends_with_one.Given as goal

-- it does so with one of those that are left, if with one of them all
abbrev pub invariant-loop-text : goal.invariant-loop-text
invariant-loop-text l = ends_with_one (map (λ t. t.now) (drop l.text-index l.texts)) l.word ≡ ends_with_one (map (λ t. t.now) l.texts) l.word
