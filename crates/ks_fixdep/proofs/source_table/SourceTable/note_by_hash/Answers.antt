use Rattle.ks_fixdep.proofs.Prelude.{slice_get_within, arith, common_steps}
use Rattle.ks_fixdep.proofs.TableLemmas.{all_noted_within, at_put, places_noted, within_put}
use Rattle.ks_fixdep.proofs.source_table.SourceTable.note_by_hash.Goals as goal

pub invariant_of-self-in_err-insert : goal.invariant_of-self-in_err-insert
invariant_of-self-in_err-insert c = grind (arith, common_steps, all_noted_within, places_noted)

pub returns-in_err-insert-clause-found : goal.returns-in_err-insert-clause-found
returns-in_err-insert-clause-found c =
    let lists = all_noted_within c.self.inside.names _ c.args.name.now c.in_ok-place.ensures.ok c.self.inside.sources.items c.self.invariant.found in
    grind (arith, common_steps, lists)

pub invariant_of-self-2 : goal.invariant_of-self-2
invariant_of-self-2 c = grind (arith, common_steps, all_noted_within, places_noted, within_put, slice_get_within)

pub returns-clause-found : goal.returns-clause-found
returns-clause-found c =
    let lists = all_noted_within c.self.inside.names _ c.args.name.now c.in_ok-place.ensures.ok c.self.inside.sources.items c.self.invariant.found in
    grind (arith, common_steps, lists)

pub returns-clause-current : goal.returns-clause-current
returns-clause-current c =
    let places = places_noted c.self.inside.names _ c.args.name.now c.in_ok-place.ensures.ok c.self.inside.current c.self.invariant.current in
    let put = at_put _ c.in_ok-place.place c.args.name.now c.in_ok-place.ensures.place c.in_ok-place.ensures.only c.self.inside.current in
    grind (arith, common_steps, put, places)
