use Rattle.ks_requests.proofs.Prelude.{YieldsList-from_rest, any_from_yields_List, begins_sync, lines, rules, tests}
use Rattle.ks_requests.proofs.script.has_sync.Goals as goal

pub returns : goal.returns
unfolding lines
returns c =
    any_from_yields_List begins_sync _ _ _ c.any.ensures.ran (YieldsList-from_rest (lines c.args.text.now) c.lines.ensures.value)
    (λ x b q k. search (rules, tests))
