use Rattle.ks_output.proofs.Prelude.{subst, HasNames, OldTexts}
use Rattle.ks_output.proofs.old_config.OldConfig.keeps_names.Goals as goal

pub returns : goal.returns
returns c = subst (λ (o : OldTexts). HasNames o.texts) c.self.view_is c.self.invariant
