use Rattle.ks_fixdep.proofs.Prelude.{sym, append_assoc, append-nil, flat_map-append, take_more, map-append}
use Rattle.ks_fixdep.proofs.rule.push_stamps.Goals as goal

pub loop-name-preserved : goal.loop-name-preserved
loop-name-preserved c =
    let more = take_more c.args.names.now c.loop-name.name-index c.name-item.result c.loop-name-test.true in
    let is = c.name-item.is in
    simp (c.in_ok-push_stamp.ensures, c.as_bytes.ensures.value, c.loop-name.invariant, more, sym is, map-append, flat_map-append, append-nil, append_assoc)
