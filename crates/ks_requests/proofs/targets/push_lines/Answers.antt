use Rattle.ks_requests.proofs.Prelude.{append-nil, lines, targets_in, rules}
use Rattle.ks_requests.proofs.targets.push_lines.Goals as goal

pub loop-line-init : goal.loop-line-init
unfolding lines
loop-line-init c = search rules

pub returns : goal.returns
unfolding targets_in
returns c = search (rules, append-nil)
