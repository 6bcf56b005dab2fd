use Rattle.ks_requests.proofs.Prelude.{◌∙◌, IfOk-equal}
use Rattle.ks_requests.proofs.JsonObjects.{then_more}
use Rattle.ks_requests.proofs.json_lines.write_beginning.Goals as goal

pub returns-clause-tokens : goal.returns-clause-tokens
returns-clause-tokens c =
    let old = c.args.out.now.tokens in
    let target = c.in_ok-write_text.ensures.tokens ∙ then_more old _ _ _ c.in_ok-begin_object.ensures.ok in
    let label = c.in_ok-key.ensures.ok ∙ then_more old _ _ _ target in
    let verdict = c.in_ok-string.ensures.ok ∙ then_more old _ _ _ label in
    let causes = c.in_ok-key-2.ensures.ok ∙ then_more old _ _ _ verdict in
    IfOk-equal _ _ _ _ c.begin_array.ensures.ok (then_more old _ _ _ causes)
