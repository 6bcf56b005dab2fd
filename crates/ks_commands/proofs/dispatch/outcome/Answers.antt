use Rattle.ks_commands.proofs.dispatch.outcome.Goals as goal

pub returns-in-Sync-clause-ends : goal.returns-in-Sync-clause-ends
returns-in-Sync-clause-ends g c =
    rw c.in-Sync.is c.synchronise.ensures.files

pub returns-in-Diff-clause-ends : goal.returns-in-Diff-clause-ends
returns-in-Diff-clause-ends g c =
    rw c.in-Diff.is (λ honest. (c.report_differences.ensures.reads.unchanged honest, c.report_differences.ensures.reported honest))

pub returns-in-Status-clause-ends : goal.returns-in-Status-clause-ends
returns-in-Status-clause-ends g c =
    rw c.in-Status.is (λ honest. (c.report_status.ensures.reads.unchanged honest, c.report_status.ensures.reported honest))

pub returns-in-Stale-clause-ends : goal.returns-in-Stale-clause-ends
returns-in-Stale-clause-ends g c = rw c.in-Stale.is (c.query_targets.ensures.unchanged, c.query_targets.ensures.reported)

pub returns-in-Why-clause-ends : goal.returns-in-Why-clause-ends
returns-in-Why-clause-ends g c = rw c.in-Why.is (c.query_targets-in-Why.ensures.unchanged, c.query_targets-in-Why.ensures.reported)

pub returns-in-Backdate-clause-ends : goal.returns-in-Backdate-clause-ends
returns-in-Backdate-clause-ends g c = rw c.in-Backdate.is (c.query_targets-in-Backdate.ensures.unchanged, c.query_targets-in-Backdate.ensures.reported)

pub returns-in-Impact-clause-ends : goal.returns-in-Impact-clause-ends
returns-in-Impact-clause-ends g c =
    rw c.in-Impact.is (c.query_predicted.ensures.unchanged, c.query_predicted.ensures.reported)

pub returns-in-Outdated-clause-ends : goal.returns-in-Outdated-clause-ends
returns-in-Outdated-clause-ends g c =
    rw (c.in-Outdated.is, ← c.as_bytes-in-Outdated.ensures.value, ← c.as_bytes-in-Outdated-2.ensures.value) (c.outdated_target.ensures.reads.unchanged, c.outdated_target.ensures.reported)

pub returns-in-Batch-clause-ends : goal.returns-in-Batch-clause-ends
returns-in-Batch-clause-ends g c = rw (c.in-Batch.is, ← c.as_bytes-in-Batch.ensures.value) c.run_script.ensures.ran

pub returns-in-Users-clause-ends : goal.returns-in-Users-clause-ends
returns-in-Users-clause-ends g c = rw (c.in-Users.is, ← c.deref.ensures.value) (c.report_users.ensures.reads.unchanged, c.report_users.ensures.reported)

pub returns-in-Cost-clause-ends : goal.returns-in-Cost-clause-ends
returns-in-Cost-clause-ends g c = rw c.in-Cost.is (c.report_cost.ensures.reads.unchanged, c.report_cost.ensures.reported)

pub returns-in-Repair-clause-ends : goal.returns-in-Repair-clause-ends
returns-in-Repair-clause-ends g c =
    rw (c.in-Repair.is, ← c.as_bytes-in-Repair.ensures.value, ← c.as_bytes-in-Repair-2.ensures.value) (λ honest. c.repair_tree.ensures.files honest c.args.dialect)

pub returns-in-Mark-clause-ends : goal.returns-in-Mark-clause-ends
returns-in-Mark-clause-ends g c = rw c.in-Mark.is (λ honest. c.mark_targets.ensures.files honest c.args.dialect)
