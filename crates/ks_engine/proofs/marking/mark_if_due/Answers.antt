use Rattle.ks_engine.proofs.Prelude.{◌∙◌, ap}
use Rattle.std.proofs.lemmas.Result.{IfOk-weaker}
use Rattle.ks_engine.proofs.MarkSteps.{marks_one}
use Rattle.ks_engine.specs.Marks.{due_by}
use Rattle.ks_engine.proofs.marking.mark_if_due.Goals as goal

pub returns-in-Some-clause-all : goal.returns-in-Some-clause-all
returns-in-Some-clause-all g c = λ honest.
    let known = c.in_ok-verdict.ensures.known honest in
    let due = rw c.in-Some.is at c.in_ok-path.ensures in
    IfOk-weaker c.write_mark.result _ _
    (λ done is. marks_one c.args.which _ _ _ _ known.0 known.1 (due ∙ ap (due_by c.args.which) known.2) done is)
    (rw (c.deref.ensures.value, c.verdict_on.ensures.reads.unchanged honest) at (c.write_mark.ensures.all honest))
