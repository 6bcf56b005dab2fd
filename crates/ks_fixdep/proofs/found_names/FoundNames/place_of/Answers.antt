use Rattle.ks_fixdep.proofs.Prelude.{map, string_bytes, sym, ◌∙◌, slice_get-map, bytes_eq-Decides, arith, common_steps, rules}
use Rattle.ks_fixdep.proofs.NotedLemmas.{names-any, names-insert}
use Rattle.ks_fixdep.proofs.OnceLemmas.{found-noted}
use Rattle.ks_fixdep.proofs.TableLemmas.{found_passes, only_place}
use Rattle.ks_fixdep.proofs.found_names.FoundNames.place_of.Goals as goal

pub returns-in-Some-clause-ok : goal.returns-in-Some-clause-ok
returns-in-Some-clause-ok c =
    let there = sym (names-any c.name_text-text.result.now c.self.inside.names.keys) ∙ sym c.in-Some.ensures.found in
    grind (arith, common_steps, there)

pub returns-in-Some-clause-place : goal.returns-in-Some-clause-place
returns-in-Some-clause-place c = grind (arith, common_steps, bytes_eq-Decides, found_passes, slice_get-map)

pub returns-in-Some-clause-only : goal.returns-in-Some-clause-only
returns-in-Some-clause-only c = let found = rw c.self.view_is at c.self.invariant in search (rules, only_place, found, returns-in-Some-clause-place)

pub invariant_of-self-2 : goal.invariant_of-self-2
invariant_of-self-2 c =
    let ks = c.self.inside.names.keys in
    let found = found-noted (map string_bytes ks) c.args.name.now c.self.invariant c.requires in
    let insert = names-insert ks c.in_ok-owned.owned in
    grind (arith, common_steps, found, insert)

pub returns-clause-ok : goal.returns-clause-ok
returns-clause-ok c = let insert = names-insert c.self.inside.names.keys c.in_ok-owned.owned in grind (arith, common_steps, insert)

pub returns-clause-place : goal.returns-clause-place
returns-clause-place c = grind (arith, common_steps, bytes_eq-Decides, slice_get-map)

pub returns-clause-only : goal.returns-clause-only
returns-clause-only c = search (rules, only_place, invariant_of-self-2, returns-clause-place)
