use Rattle.ks_symbols.proofs.Prelude.{List, ℕ, subst, IsSortedByKey, IsStableByKey, name_in, stated_in, arith, common_steps}
use Rattle.ks_symbols.proofs.LastOnes.{order, closed, closed_rise}
use Rattle.ks_symbols.proofs.table.Draft.finish.Goals as goal

pub sort_records-requires : goal.sort_records-requires
sort_records-requires g c = grind arith

pub invariant_of-result : goal.invariant_of-result
invariant_of-result g c = grind (arith, common_steps, order, closed_rise)

pub returns : goal.returns
returns g c =
    let bs = c.self.inside.bytes.items in
    let rs = c.sort_records.new.records.items in
    let whole = closed (stated_in bs) c.self.inside.records.items rs
    (subst (λ (b : List ℕ). IsSortedByKey (name_in b) order rs) c.deref.ensures.value c.in_ok-sort_records.ensures.sorted)
    (subst (λ (b : List ℕ). IsStableByKey (name_in b) order c.self.inside.records.items rs) c.deref.ensures.value c.sort_records.ensures.stable) in
    grind (arith, whole, c.deref-2.ensures.value, c.deref-3.ensures.value, c.in_ok-records.ensures, c.self.view_is)
