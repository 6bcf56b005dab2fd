use Rattle.ks_requests.proofs.Prelude.{◌≡◌, ℕ, option_map, slice_get, subst, YieldsList-from_rest, nth_from_yields_List, lines}
use Rattle.ks_requests.proofs.sites.line_at.Goals as goal

pub returns : goal.returns
unfolding lines
returns c =
    subst (λ (n : ℕ). option_map (λ l. l.now) c.nth.result ≡ slice_get (lines c.args.text.now) n) c.saturating_sub.ensures
    (nth_from_yields_List c.nth.result c.nth.new.self c.saturating_sub.result c.nth.ensures.ran
    (YieldsList-from_rest (lines c.args.text.now) c.lines.ensures.value))
