use Rattle.ks_requests.proofs.Prelude.{◌≡◌, ◌++◌, take, touch_lines}
use Rattle.ks_requests.proofs.preview.write_touches.Given as goal

abbrev pub invariant-loop-name : goal.invariant-loop-name
invariant-loop-name l = l.out.items ≡ l.initial.out.items ++ touch_lines (take l.name-index l.names)
