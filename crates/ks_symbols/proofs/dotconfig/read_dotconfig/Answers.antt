use Rattle.ks_symbols.proofs.Prelude.{subst, sym, IsConfiguration, SettingsView}
use Rattle.ks_symbols.proofs.dotconfig.read_dotconfig.Goals as goal

pub returns-clause-configured : goal.returns-clause-configured
returns-clause-configured c = subst (λ (s : SettingsView). IsConfiguration s.entries) (sym c.in_ok-finish.ensures) c.in_ok-draft.ensures.configured
