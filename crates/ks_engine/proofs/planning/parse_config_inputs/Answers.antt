use Rattle.ks_engine.proofs.Prelude.{◌∙◌, sym, subst, get, is_title, IsTrue}
use Rattle.ks_engine.proofs.Reading.{are_config_inputs}
use Rattle.ks_engine.proofs.planning.parse_config_inputs.Goals as goal

pub returns-clause-read : goal.returns-clause-read
returns-clause-read c =
    let copied = c.in_ok-copied.ensures.items ∙ c.title.ensures in
    let legal = subst (λ t. IsTrue (is_title t)) (sym copied) c.in_ok-symbols.ensures.titled in
    are_config_inputs _ _ _ (get c.in_ok-symbols.symbols.kinds) c.in_ok-symbols.ensures.kinds c.in_ok-symbols.ensures.refusal c.in_ok-settings.ensures.refusal
    (copied ∙ c.in_ok-symbols.ensures.title) c.in_ok-settings.ensures.entries c.in_ok-settings.ensures.unknown
    (record { title = legal; config = c.in_ok-settings.ensures.configured })
