use Rattle.ks_symbols.proofs.Prelude.{◌∙◌, sym, ap, subst, RefusedBy}
use Rattle.std.specs.FinMap as map
use Rattle.ks_symbols.specs.DotConfig.{fault_of_statement}
use Rattle.ks_symbols.specs.declared.error.SourceError.TheVariants as fault
use Rattle.ks_symbols.proofs.dotconfig.apply.Goals as goal

pub returns-in-Some-look_up-clause-refusal : goal.returns-in-Some-look_up-clause-refusal
returns-in-Some-look_up-clause-refusal c =
    let kinds = map.get c.args.settings.now.kinds in
    subst (λ s. RefusedBy fault.OutOfMemory c.take.result (fault_of_statement kinds c.args.number c.args.line.now s)) c.in-Some.ensures
    (c.take.ensures.refusal kinds c.args.line.now (sym (c.in-Some-look_up.ensures.kind ∙ ap kinds c.name.ensures)))
