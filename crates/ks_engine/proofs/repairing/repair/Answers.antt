use Rattle.ks_engine.proofs.Prelude.{IfErr-weaker}
use Rattle.std.proofs.lemmas.Result.{IfOk-weaker}
use Rattle.ks_engine.proofs.Surveying.{begin_refused, begins, begun_answer, lost_legal, put_back_refused, puts_back}
use Rattle.ks_engine.proofs.repairing.repair.Goals as goal

pub returns-in-Some-clause-repaired : goal.returns-in-Some-clause-repaired
returns-in-Some-clause-repaired g c = λ honest.
    let same = c.in_ok-found.ensures.reads.unchanged honest in
    let last = c.in-Some.ensures.last in
    IfOk-weaker c.put_back.result _ _
    (λ r is. puts_back _ _ _ _ _ _ _ _ (c.in_ok-found.ensures.found honest) _ _ r last.0 last.1 is.0 is.1 is.2)
    (rw same at (c.put_back.ensures.done honest))

pub returns-in-Some-clause-refused : goal.returns-in-Some-clause-refused
returns-in-Some-clause-refused g c = λ honest.
    let same = c.in_ok-found.ensures.reads.unchanged honest in
    let last = c.in-Some.ensures.last in
    IfErr-weaker c.put_back.result _ _
    (λ e is. put_back_refused _ _ _ _ _ _ _ _ (c.in_ok-found.ensures.found honest) _ _ e last.0 last.1 is)
    (rw same at (c.put_back.ensures.refused honest))

pub returns-clause-repaired : goal.returns-clause-repaired
returns-clause-repaired g c = λ honest.
    let same = c.in_ok-found.ensures.reads.unchanged honest in
    IfOk-weaker c.begin_again.result _ _
    (λ r is. begun_answer _ _ _ _ _ r (begins _ _ _ _ _ _ _ _ (c.in_ok-found.ensures.found honest) _ r c.in-None.ensures.not_last is))
    (rw same at (c.begin_again.ensures.begun honest))

pub returns-clause-refused : goal.returns-clause-refused
returns-clause-refused g c = λ honest.
    let same = c.in_ok-found.ensures.reads.unchanged honest in
    IfErr-weaker c.begin_again.result _ _
    (λ e is. begin_refused _ _ _ _ _ _ _ _ (c.in_ok-found.ensures.found honest) _ e c.in-None.ensures.not_last is)
    (rw same at (c.begin_again.ensures.refused honest))

pub put_back-requires : goal.put_back-requires
put_back-requires g c = record { legal = λ honest. lost_legal _ _ _ _ (c.in_ok-found.ensures.found honest).are_stamps }

pub begin_again-requires : goal.begin_again-requires
begin_again-requires g c = record { legal = λ honest. (c.in_ok-found.ensures.found honest).are_stamps.legal }
