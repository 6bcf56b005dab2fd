use Rattle.ks_symbols.proofs.Prelude.{sym, ap, subst, IsConfiguration}
use Rattle.ks_symbols.proofs.settings.SettingsBuilder.finish.Goals as goal

pub invariant_of-result : goal.invariant_of-result
invariant_of-result c = subst IsConfiguration (sym (ap (λ s. s.entries) c.self.view_is)) c.requires
