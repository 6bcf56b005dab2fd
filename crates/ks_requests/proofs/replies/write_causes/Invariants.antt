use Rattle.ks_requests.proofs.Prelude.{◌≡◌, ◌++◌, flat_map, take, cause_line}
use Rattle.ks_requests.proofs.replies.write_causes.Given as goal

abbrev pub invariant-loop-cause : goal.invariant-loop-cause
invariant-loop-cause l = l.text.items ≡ l.initial.text.items ++ flat_map cause_line (take l.cause-index l.causes)
