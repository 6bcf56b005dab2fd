use Rattle.ks_requests.proofs.Prelude.{append-nil, append_assoc, flat_map-append, lines, rules}
use Rattle.ks_requests.proofs.unknown.write_unknown.Goals as goal

pub loop-line-init : goal.loop-line-init
unfolding lines
loop-line-init c = search rules

pub loop-line-preserved : goal.loop-line-preserved
loop-line-preserved c = search (rules, append_assoc, flat_map-append)

pub returns : goal.returns
returns c = search (rules, append-nil)
