use Rattle.ks_requests.proofs.Prelude.{◌∙◌, IfOk-equal}
use Rattle.ks_requests.proofs.JsonObjects.{then_more}
use Rattle.ks_requests.proofs.json_lines.write_cause.Goals as goal

pub returns-clause-tokens : goal.returns-clause-tokens
returns-clause-tokens c =
    let old = c.args.out.now.tokens in
    let name = c.in_ok-write_text.ensures.tokens ∙ then_more old _ _ _ c.in_ok-begin_object.ensures.ok in
    let place = c.in_ok-write_text-2.ensures.tokens ∙ then_more old _ _ _ name in
    let label = c.in_ok-key.ensures.ok ∙ then_more old _ _ _ place in
    let stamp = c.in_ok-u64.ensures.ok ∙ then_more old _ _ _ label in
    rw (← c.as_bytes.ensures.value, ← c.as_bytes-2.ensures.value) (IfOk-equal _ _ _ _ c.end_object.ensures.ok (then_more old _ _ _ stamp))
