use Rattle.ks_fixdep.proofs.Prelude.{◌≡◌, map, [], None, first_fault, Stands}
use Rattle.ks_fixdep.proofs.dependency_file.prerequisites_of.Given as goal

-- it stands after the tokens so far, and they all fit
abbrev pub invariant-loop-token : goal.invariant-loop-token
invariant-loop-token l = record {
  stands : Stands l.header l.progress (map (λ x. x.now) l.yielded);
  fits : first_fault l.header [] (map (λ x. x.now) l.yielded) ≡ None;
}
