use Rattle.ks_fixdep.proofs.Prelude.{common_steps, get_or, length, refl, [], arith, YieldsList-from_range, items_from_collect, take_all, fill_by_all}
use Rattle.ks_fixdep.proofs.building.add_sources.Goals as goal

pub returns : goal.returns
returns c =
    let found = c.args.found.now in
    let places = items_from_collect c.collect.result c.collect.ensures.ran (YieldsList-from_range 0 (length found) (length found) refl (omega arith)) in
    let whole = fill_by_all (λ i. get_or found i []) found (length found) [] refl (λ _ _. refl) in
    grind (arith, common_steps, take_all, places, whole)
