use Rattle.ks_requests.proofs.Prelude.{◌≡◌, ◌++◌, flat_map, take, cause_value, json_tokens}
use Rattle.ks_requests.proofs.json_lines.write_causes.Given as goal

abbrev pub invariant-loop-cause : goal.invariant-loop-cause
invariant-loop-cause l = record {
  tokens : l.out.tokens ≡ l.fn.out.tokens ++ flat_map (λ c. json_tokens (cause_value c)) (take l.cause-index l.causes);
  before : l.out.before ≡ l.fn.out.before;
}
