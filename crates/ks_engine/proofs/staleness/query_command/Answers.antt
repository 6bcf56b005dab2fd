use Rattle.ks_engine.proofs.Prelude.{inr, refl, sym, Some, Ok, Err, err_from_is_err_and, borrowed_view, rules}
use Rattle.ks_engine.proofs.Querying.{build_illegal, build_bad_command, build_read, build_as, build_refused, build_evaluates, read_legal, refused_at}
use Rattle.ks_engine.proofs.staleness.query_command.Goals as goal

pub returns-then-not-target_is_legal-clause-answer : goal.returns-then-not-target_is_legal-clause-answer
returns-then-not-target_is_legal-clause-answer g c = search (rules, build_as, build_illegal)

pub returns-then-not-command_is_legal-clause-answer : goal.returns-then-not-command_is_legal-clause-answer
returns-then-not-command_is_legal-clause-answer g c = search (rules, build_as, build_bad_command)

pub returns-in_err-text-clause-answer : goal.returns-in_err-text-clause-answer
returns-in_err-text-clause-answer g c = search (rules, err_from_is_err_and, build_refused)

pub returns-in_err-file-clause-answer : goal.returns-in_err-file-clause-answer
returns-in_err-file-clause-answer g c = search (rules, err_from_is_err_and, build_refused, refused_at)

pub returns-in_default-clause-answer : goal.returns-in_default-clause-answer
returns-in_default-clause-answer g c = search (rules, build_as, build_read)

pub returns-then-not-has_command-clause-answer : goal.returns-then-not-has_command-clause-answer
returns-then-not-has_command-clause-answer g c = λ honest.
    let read = build_read (g.T.Tree.files c.args.tree.now) c.args.target.now c.args.command.now (Some c.deref.result.now) _ c.if-not-target_is_legal.ensures
    c.if-not-command_is_legal.ensures (rw (← c.in_ok-text.ensures.read honest, c.in-Some.is, ← c.deref.ensures.value) refl) c.in_ok-file.ensures.read in
    inr (rw (read, ← c.if-not-has_command.ensures) refl)

pub evaluate-requires-clause-legal : goal.evaluate-requires-clause-legal
evaluate-requires-clause-legal g c = search (rules, read_legal)

pub returns-in_err-evaluated-clause-answer : goal.returns-in_err-evaluated-clause-answer
returns-in_err-evaluated-clause-answer g c = λ honest.
    let files = g.T.Tree.files c.args.tree.now in
    let p = err_from_is_err_and c.from_residual-in_err-evaluated.result c.from_residual-in_err-evaluated.ensures.1 in
    rw (p.1, p.2) (build_evaluates files c.args.target.now c.args.command.now (Some c.deref.result.now) (borrowed_view c.in_ok-file.file)
    (Err c.in_err-evaluated.field-0.0) c.if-not-target_is_legal.ensures c.if-not-command_is_legal.ensures
    (rw (← c.in_ok-text.ensures.read honest, c.in-Some.is, ← c.deref.ensures.value) refl) c.in_ok-file.ensures.read (sym c.if-not-has_command.ensures)
    (c.in_err-evaluated.ensures.answer honest files (sym (c.in_ok-text.ensures.reads.unchanged honest))))

pub returns-clause-answer : goal.returns-clause-answer
returns-clause-answer g c = λ honest.
    let files = g.T.Tree.files c.args.tree.now in
    build_evaluates files c.args.target.now c.args.command.now (Some c.deref.result.now) (borrowed_view c.in_ok-file.file)
    (Ok c.in_ok-evaluated.evaluated) c.if-not-target_is_legal.ensures c.if-not-command_is_legal.ensures
    (rw (← c.in_ok-text.ensures.read honest, c.in-Some.is, ← c.deref.ensures.value) refl) c.in_ok-file.ensures.read (sym c.if-not-has_command.ensures)
    (c.in_ok-evaluated.ensures.answer honest files (sym (c.in_ok-text.ensures.reads.unchanged honest)))
