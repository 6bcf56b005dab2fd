use Rattle.ks_symbols.proofs.Prelude.{sym, ◌∙◌, arith, drop_all, first_kind, first_clash, rules, common_steps, last_kind}
use Rattle.ks_symbols.proofs.Clashes.{clash_at, clash_past, kind_of_first}
use Rattle.ks_symbols.proofs.LastOnes.{or_none}
use Rattle.ks_symbols.proofs.kconfig.first_clash.Goals as goal

pub loop-declaration-init : goal.loop-declaration-init
unfolding last_kind
loop-declaration-init c = search (rules, kind_of_first)

pub returns-then-has_other_kind-clause-clash : goal.returns-then-has_other_kind-clause-clash
returns-then-has_other_kind-clause-clash c =
    clash_at _ _ _ _ c.loop-declaration-test.true c.loop-declaration.invariant.first (sym c.has_other_kind.ensures ∙ c.if-has_other_kind.true)
    ∙ c.loop-declaration.invariant.clash

pub loop-declaration-preserved : goal.loop-declaration-preserved
loop-declaration-preserved c =
    let past = clash_past _ _ _ _ c.loop-declaration-test.true c.loop-declaration.invariant.first (sym c.has_other_kind.ensures ∙ c.if-has_other_kind.false) in
    record { clash = past.0 ∙ c.loop-declaration.invariant.clash; first = past.1 }

pub returns-clause-clash : goal.returns-clause-clash
unfolding first_clash
returns-clause-clash c = search (rules, drop_all)

pub returns-clause-kinds : goal.returns-clause-kinds
unfolding first_kind
returns-clause-kinds c = grind (arith, common_steps, kind_of_first, or_none)
