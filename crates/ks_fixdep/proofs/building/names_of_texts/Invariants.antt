use Rattle.ks_fixdep.proofs.Prelude.{◌≡◌, map, take, names_in}
use Rattle.ks_fixdep.proofs.building.names_of_texts.Given as goal

abbrev pub invariant-loop-text : goal.invariant-loop-text
invariant-loop-text l = l.found.items ≡ map (λ t. names_in t.now) (take l.text-index l.texts)
