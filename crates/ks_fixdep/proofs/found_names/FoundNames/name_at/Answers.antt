use Rattle.ks_fixdep.proofs.Prelude.{◌≡◌, Some, map, string_bytes, slice_get, slice_get-map, is_name, arith, common_steps}
use Rattle.ks_fixdep.proofs.NotedLemmas.{passes_at}
use Rattle.ks_fixdep.proofs.TableLemmas.{only_place}
use Rattle.ks_fixdep.proofs.found_names.FoundNames.name_at.Goals as goal

-- the name stands at the place
abbrev at : goal.After-as_bytes → Type 0
at c = slice_get (map string_bytes c.self.inside.names.keys) c.args.place ≡ Some c.as_bytes.result.now

stands : (c : goal.After-as_bytes) → at c
stands c = grind (arith, common_steps, slice_get-map)

pub returns-in-Some-clause-value : goal.returns-in-Some-clause-value
returns-in-Some-clause-value c = grind (arith, common_steps, stands)

pub returns-in-Some-clause-legal : goal.returns-in-Some-clause-legal
returns-in-Some-clause-legal c =
    passes_at is_name (map string_bytes c.self.inside.names.keys) c.args.place c.as_bytes.result.now c.self.invariant.legal (stands c)

pub returns-in-Some-clause-only : goal.returns-in-Some-clause-only
returns-in-Some-clause-only c = rw (← c.self.view_is) (λ i is. only_place _ c.args.place i _ c.self.invariant (stands c) is)

pub returns-in-None-clause-value : goal.returns-in-None-clause-value
returns-in-None-clause-value c = grind (arith, common_steps, slice_get-map)
