use Rattle.ks_requests.proofs.Prelude.{◌≡◌, [], map, take, all_noted}
use Rattle.ks_requests.proofs.targets.each_once.Given as goal

abbrev pub invariant-loop-target : goal.invariant-loop-target
invariant-loop-target l = map (λ t. t.now) l.once.keys ≡ all_noted [] (map (λ t. t.now) (take l.target-index l.targets))
