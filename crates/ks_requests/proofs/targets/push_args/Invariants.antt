use Rattle.ks_requests.proofs.Prelude.{◌≡◌, ◌++◌, map, string_bytes, take}
use Rattle.ks_requests.proofs.targets.push_args.Given as goal

abbrev pub invariant-loop-word : goal.invariant-loop-word
invariant-loop-word l = map (λ t. t.now) l.targets.items ≡ map (λ t. t.now) l.initial.targets.items ++ map (λ w. string_bytes w) (take l.word-index l.args)
