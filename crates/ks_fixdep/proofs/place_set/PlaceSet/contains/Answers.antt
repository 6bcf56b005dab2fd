use Rattle.ks_fixdep.proofs.Prelude.{arith, common_steps, rules}
use Rattle.ks_fixdep.proofs.PlaceSetLemmas.{points_at, points_nowhere, points_past}
use Rattle.ks_fixdep.proofs.place_set.PlaceSet.contains.Goals as goal

pub returns-in_default : goal.returns-in_default
returns-in_default c = grind (arith, common_steps, points_nowhere)

pub returns-in-Some-get : goal.returns-in-Some-get
returns-in-Some-get c = search (rules, points_at)

pub returns-in-None : goal.returns-in-None
returns-in-None c =
    let past = points_past c.self.inside.points.items c.self.inside.places.items c.self.invariant c.args.place c.in-Some.at.now in
    grind (arith, common_steps, past)
