use Rattle.ks_requests.proofs.Prelude.{◌∙◌, ap, not, YieldsList-from_rest, any_from_yields_List, is_faulty, lines, rules, tests}
use Rattle.ks_requests.proofs.ScriptSyncing.{faultless, not_faultless}
use Rattle.ks_requests.proofs.script.is_faultless.Goals as goal

pub returns-then-text-le-MAX_BYTES : goal.returns-then-text-le-MAX_BYTES
unfolding lines
returns-then-text-le-MAX_BYTES c =
    ap not (any_from_yields_List is_faulty _ _ _ c.any.ensures.ran (YieldsList-from_rest (lines c.args.text.now) c.lines.ensures.value)
    (λ x b q k. search (rules, tests)))
    ∙ faultless c.args.text.now c.if-text-le-MAX_BYTES.true

pub returns-else-text-le-MAX_BYTES : goal.returns-else-text-le-MAX_BYTES
returns-else-text-le-MAX_BYTES c = not_faultless c.args.text.now c.if-text-le-MAX_BYTES.false
