use Rattle.ks_engine.proofs.Prelude.{sym, ◌∙◌, Some, err_from_is_err_and, borrowed_view, limit_of, rules, refl}
use Rattle.ks_engine.proofs.Querying.{explained_illegal, explained_read, explain_refused, explain_evaluated, refused_at, read_legal, still_seen, command_seen}
use Rattle.ks_engine.proofs.Predicting.{answers_to}
use Rattle.ks_engine.proofs.explaining.query_object.Goals as goal

pub returns-then-not-target_is_legal-clause-answer : goal.returns-then-not-target_is_legal-clause-answer
returns-then-not-target_is_legal-clause-answer g c = search (rules, answers_to, explained_illegal)

pub returns-in_err-text-clause-answer : goal.returns-in_err-text-clause-answer
returns-in_err-text-clause-answer g c = search (rules, answers_to, err_from_is_err_and, command_seen, explain_refused, refused_at)

pub returns-in_default-clause-answer : goal.returns-in_default-clause-answer
returns-in_default-clause-answer g c = search (rules, answers_to, command_seen, explained_read)

pub returns-in_err-file-clause-answer : goal.returns-in_err-file-clause-answer
returns-in_err-file-clause-answer g c = search (rules, answers_to, err_from_is_err_and, command_seen, explain_refused, refused_at)

pub evaluate-requires-clause-legal : goal.evaluate-requires-clause-legal
evaluate-requires-clause-legal g c = search (rules, read_legal)

pub returns-clause-answer : goal.returns-clause-answer
returns-clause-answer g c = λ honest. answers_to c.args.query (g.T.Tree.files c.args.tree.now) c.args.target.now _ (λ after seen.
    let files = g.T.Tree.files c.args.tree.now in
    let at = command_seen c.args.query files after c.args.target.now seen ∙ sym (c.in_ok-text.ensures.read honest) in
    explain_evaluated (limit_of c.args.query) after c.args.target.now (Some c.deref.result.now) (borrowed_view c.in_ok-file.file) c.evaluate.result
    c.if-not-target_is_legal.ensures (rw (at, c.in-Some.is, ← c.deref.ensures.value) refl) c.in_ok-file.ensures.read
    (c.evaluate.ensures.answer honest after (still_seen c.args.query files _ after (c.in_ok-text.ensures.reads.unchanged honest) seen)))
