use Rattle.ks_symbols.proofs.Prelude.{◌≡◌, IfSome, Some, subst, sym, ap, ◌∙◌}
use Rattle.std.proofs.Common.{slice_get}
use Rattle.ks_symbols.proofs.Records.{found_in, entries_in}
use Rattle.ks_symbols.proofs.table.Table.get_near.Goals as goal

pub returns-in-Some-clause-value : goal.returns-in-Some-clause-value
returns-in-Some-clause-value g c = c.in-Some.ensures.value ∙ found_in _ _ _ _ _ c.deref.ensures.value c.deref-2.ensures.value c.self.view_is c.args.name.now

pub returns-in-Some-clause-index : goal.returns-in-Some-clause-index
returns-in-Some-clause-index g c =
    ap (λ es. slice_get es c.in-Some.found.0) (sym (entries_in _ _ _ _ _ c.deref.ensures.value c.deref-2.ensures.value c.self.view_is c.self.invariant))
    ∙ c.in-Some.ensures.index

pub returns-in-None-clause-value : goal.returns-in-None-clause-value
returns-in-None-clause-value g c =
    c.find.ensures.value ∙ found_in _ _ _ _ _ c.deref-in-None.ensures.value c.deref-in-None-2.ensures.value c.self.view_is c.args.name.now

pub returns-in-None-clause-index : goal.returns-in-None-clause-index
returns-in-None-clause-index g c =
    subst (λ es. IfSome c.find.result (λ s. slice_get es s.0 ≡ Some (c.args.name.now, (s.1, s.2.now))))
    (entries_in _ _ _ _ _ c.deref-in-None.ensures.value c.deref-in-None-2.ensures.value c.self.view_is c.self.invariant)
    c.find.ensures.index
