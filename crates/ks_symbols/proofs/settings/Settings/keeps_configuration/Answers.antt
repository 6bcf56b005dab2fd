use Rattle.ks_symbols.proofs.Prelude.{subst, IsConfiguration, SettingsView}
use Rattle.ks_symbols.proofs.settings.Settings.keeps_configuration.Goals as goal

pub returns : goal.returns
returns c = subst (λ (s : SettingsView). IsConfiguration s.entries) c.self.view_is c.self.invariant
