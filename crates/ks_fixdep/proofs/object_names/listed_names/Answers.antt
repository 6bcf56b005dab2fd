use Rattle.ks_fixdep.proofs.Prelude.{sym, take, get_or, take_all, take_more, arith, common_steps}
use Rattle.ks_fixdep.proofs.TableLemmas.{at_none, at_pushed}
use Rattle.ks_fixdep.proofs.object_names.listed_names.Goals as goal

pub loop-place-preserved-in_default : goal.loop-place-preserved-in_default
loop-place-preserved-in_default c = grind (arith, common_steps, take_more, at_none)

pub loop-place-preserved : goal.loop-place-preserved
loop-place-preserved c =
    let places = c.as_slice-places.result.now in
    let i = c.loop-place.place-index in
    let next = at_pushed c.args.found.now.scan.table.names (get_or places i 0) c.in-Some.name.now (sym c.in-Some.ensures.value) c.in-Some.ensures.only (take i places) in
    grind (arith, common_steps, take_more, next)

pub returns : goal.returns
returns c = grind (arith, common_steps, take_all)
