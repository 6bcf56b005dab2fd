use Rattle.ks_output.proofs.Prelude.{sym, subst, HasNames}
use Rattle.ks_output.proofs.LegalNames.{no_names}
use Rattle.ks_output.proofs.old_config.OldConfig.empty.Goals as goal

pub invariant_of-result : goal.invariant_of-result
invariant_of-result c = subst HasNames (sym c.empty.ensures) no_names

pub returns-clause-names : goal.returns-clause-names
returns-clause-names c = subst HasNames (sym c.empty.ensures) no_names
