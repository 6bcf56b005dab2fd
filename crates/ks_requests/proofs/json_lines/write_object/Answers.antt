use Rattle.ks_requests.proofs.Prelude.{◌∙◌, IfOk-equal}
use Rattle.ks_requests.proofs.JsonObjects.{then_more}
use Rattle.ks_requests.proofs.json_lines.write_object.Goals as goal

pub returns-in_ok-end_array-in-Err-clause-tokens : goal.returns-in_ok-end_array-in-Err-clause-tokens
returns-in_ok-end_array-in-Err-clause-tokens c =
    let old = c.args.out.now.tokens in
    let written = c.in_ok-end_array-in-Err.ensures.ok ∙ then_more old _ _ _ c.in_ok-write_beginning-in-Err.ensures.tokens in
    rw c.in-Err.is (IfOk-equal _ _ _ _ c.write_refusal.ensures.tokens (then_more old _ _ _ written))
