use Rattle.ks_engine.proofs.Prelude.{CommandFile, CommandTemporary, subst}
use Rattle.ks_engine.proofs.Writes.{on_err}
use Rattle.ks_engine.proofs.LowerLaws.{apart}
use Rattle.ks_engine.proofs.BeginningAgain.{one_forgotten, some_forgotten}
use Rattle.ks_engine.specs.Repairs.{LosesNumber}
use Rattle.ks_engine.proofs.repairing.forget_record.Goals as goal

pub replace-requires : goal.replace-requires
replace-requires g c = rw (c.deref-in-Some.ensures.value, c.deref-in-Some-2.ensures.value, c.in_ok-temporary-in-Some.ensures, c.in_ok-path.ensures)
    (apart (CommandTemporary c.args.target.now) (CommandFile c.args.target.now) tt tt (λ e. cc))

pub returns-in_err-replace-in-Some-clause-some : goal.returns-in_err-replace-in-Some-clause-some
returns-in_err-replace-in-Some-clause-some g c = λ honest.
    let same = c.in-Ok-Some.ensures.unchanged honest in
    let found = rw (c.in-Ok-Some.is, c.in-Ok-Some.field-0-is, c.deref.ensures.value, c.in_ok-path.ensures) at (c.read.ensures.found honest) in
    let loses = rw (c.in-Some.is, c.deref-2.ensures.value) at c.in_ok-plain.ensures in
    let others = rw (c.deref-in-Some.ensures.value, c.deref-in-Some-2.ensures.value, c.in_ok-temporary-in-Some.ensures, c.in_ok-path.ensures, same)
    at (c.replace.ensures.others honest) in
    let either = rw (c.deref-in-Some-2.ensures.value, c.deref-in-Some-3.ensures.value, c.in_ok-path.ensures, same) at (c.in_err-replace-in-Some.ensures.old_or_new honest) in
    on_err c.from_residual-in_err-replace-in-Some.result _ (some_forgotten _ _ _ _ (subst (λ f. LosesNumber c.args.target.now f c.in-Some.plain.items) found loses) others either)

pub returns-in-Some-clause-all : goal.returns-in-Some-clause-all
returns-in-Some-clause-all g c = λ honest.
    let same = c.in-Ok-Some.ensures.unchanged honest in
    let found = rw (c.in-Ok-Some.is, c.in-Ok-Some.field-0-is, c.deref.ensures.value, c.in_ok-path.ensures) at (c.read.ensures.found honest) in
    let loses = rw (c.in-Some.is, c.deref-2.ensures.value) at c.in_ok-plain.ensures in
    let others = rw (c.deref-in-Some.ensures.value, c.deref-in-Some-2.ensures.value, c.in_ok-temporary-in-Some.ensures, c.in_ok-path.ensures, same)
    at (c.replace.ensures.others honest) in
    let written = rw (c.deref-in-Some-2.ensures.value, c.deref-in-Some-3.ensures.value, c.in_ok-path.ensures) at (c.in_ok-replace-in-Some.ensures.written honest) in
    let gone = rw (c.deref-in-Some.ensures.value, c.in_ok-temporary-in-Some.ensures) at (c.in_ok-replace-in-Some.ensures.gone honest) in
    one_forgotten _ _ _ _ (subst (λ f. LosesNumber c.args.target.now f c.in-Some.plain.items) found loses) others written gone
