use Rattle.ks_fixdep.proofs.Prelude.{◌≡◌, ℕ, option_map, subst, YieldsList-from_first, nth_from_yields_List, tokens}
use Rattle.std.specs.Prelude.{slice_get}
use Rattle.ks_fixdep.proofs.tokens.token_at.Goals as goal

pub returns : goal.returns
returns c =
    subst (λ (n : ℕ). option_map (λ t. t.now) c.nth.result ≡ slice_get (tokens c.args.text.now) n) c.saturating_sub.ensures
    (nth_from_yields_List c.nth.result c.nth.new.self c.saturating_sub.result c.nth.ensures.ran
    (YieldsList-from_first (λ t. t.now) (λ s. tokens s.rest.now) {s = c.new.result} (tokens c.args.text.now) c.new.ensures))
