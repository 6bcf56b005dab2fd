use Rattle.ks_requests.proofs.Prelude.{◌∙◌, ◌++◌, ◌≡◌, ap, flat_map, sym, take, take_all, cause_value, json_tokens, IfOk-equal}
use Rattle.ks_requests.proofs.JsonObjects.{causes_are, then_more}
use Rattle.ks_requests.proofs.json_lines.write_causes.Goals as goal

pub returns-clause-tokens : goal.returns-clause-tokens
returns-clause-tokens c =
    let old = c.args.out.now.tokens in
    let causes = c.args.causes.now in
    let all : take c.loop-cause.cause-index causes ≡ causes = take_all _ _ c.loop-cause-test.false in
    let written = c.loop-cause.invariant.tokens ∙ ap (λ cs. old ++ flat_map (λ x. json_tokens (cause_value x)) cs) all in
    IfOk-equal _ _ _ _ c.end_array.ensures.ok (then_more old _ _ _ written ∙ ap (λ ts. old ++ ts) (sym (causes_are causes)))
