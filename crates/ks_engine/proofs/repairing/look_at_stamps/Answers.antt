use Rattle.ks_engine.proofs.Prelude.{err_from_is_err_and, take_more, rules}
use Rattle.ks_engine.proofs.Surveying.{large_stamp, lost_more, max_is, reads_more, stamps_more}
use Rattle.ks_engine.proofs.repairing.look_at_stamps.Goals as goal
use Rattle.ks_engine.proofs.repairing.look_at_stamps.Goals.{in-Some, in-None+in_ok-new-in-None+in_ok-push-in-None}

pub loop-name-preserved : goal.loop-name-preserved
loop-name-preserved g c =
    let before = c.loop-name.invariant in
    let at = take_more c.args.names.now c.loop-name.name-index c.name-item.result c.loop-name-test.true in
    let legal = rw c.as_bytes-bytes.ensures.value at c.as_bytes-bytes.ensures.legal in
    record {
      stamps = λ honest.
          let number = rw (before.reads.unchanged honest) at (c.in_ok-number.ensures.number honest) in
          rw (at, ← c.name-item.is) (elim c.match-branch-2.branch [
            | in-Some w ↦ rw (w.lost-is, w.highest-is, w.max-highest.ensures, max_is)
                (stamps_more _ _ _ _ _ (before.stamps honest) _ legal (rw w.in-Some.is at number))
            | in-None+in_ok-new-in-None+in_ok-push-in-None w ↦ rw (w.lost-is, w.in_ok-push-in-None.ensures.items, w.in_ok-new-in-None.ensures, c.as_bytes-bytes.ensures.value, w.highest-is)
                (lost_more _ _ _ _ _ (before.stamps honest) legal (rw w.in-None.is at number))
          ]);
      reads = reads_more g.T.Tree _ _ _ _ before.reads c.stamp_number.ensures.reads;
    }

pub returns-in_err-number-clause-refused : goal.returns-in_err-number-clause-refused
returns-in_err-number-clause-refused g c = λ honest.
    let is = rw (c.loop-name.invariant.reads.unchanged honest) at (c.in_err-number.ensures.refused honest) in
    let fact = large_stamp (g.T.Tree.files c.args.tree.now) c.args.names.now c.loop-name.name-index c.name-item.result c.in_err-number.field-0.0 c.loop-name-test.true
    c.name-item.is is in
    search (rules, err_from_is_err_and, fact)
