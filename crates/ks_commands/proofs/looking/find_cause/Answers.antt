use Rattle.ks_commands.proofs.Prelude.{◌∙◌, ◌⊎◌, err_from_is_err_and, inl, inr, refl, sym}
use Rattle.ks_engine.specs.Refusals.{IsAborted}
use Rattle.ks_commands.specs.Looking.{IsLooked, IsUnread}
use Rattle.ks_commands.proofs.LookingLemmas.{if_err, if_ok, bad_tool, unread_behind}
use Rattle.ks_commands.proofs.looking.find_cause.Goals as goal

pub returns-in_err-hidden-clause-refused : goal.returns-in_err-hidden-clause-refused
returns-in_err-hidden-clause-refused g c = λ honest.
    let files = g.T.Tree.files c.args.tree.now in
    let p = err_from_is_err_and c.from_residual-in_err-hidden.result c.from_residual-in_err-hidden.ensures.1 in
    rw (p.1, p.2) (bad_tool c.args.dialect c.args.header c.args.options c.args.strict.now files c.args.depfile.now c.args.command.now c.in_err-hidden.field-0.0
    (sym c.in_ok-word.ensures ∙ c.in_default.is) (rw (c.deref.ensures.value) at (c.in_err-hidden.ensures.refused honest)))

pub returns-in-Some-2-clause-looked : goal.returns-in-Some-2-clause-looked
returns-in-Some-2-clause-looked g c = λ honest.
    let cause = rw (c.deref.ensures.value, c.in-Some-2.is) at (c.in_ok-hidden.ensures.found honest) in
    inr (sym c.in_ok-word.ensures ∙ c.in_default.is, inl (c.in-Some-2.hidden, cause, refl))

pub returns-clause-looked : goal.returns-clause-looked
returns-clause-looked g c = λ honest.
    let files = g.T.Tree.files c.args.tree.now in
    let are = rw (c.deref.ensures.value, c.in_default-2.is) at (c.in_ok-hidden.ensures.found honest) in
    let found = rw (c.in_ok-hidden.ensures.reads.unchanged honest, c.as_bytes-alias.ensures.value) at (c.look_at_files.ensures.looked honest) in
    if_ok _ (IsLooked c.args.dialect c.args.header c.args.options c.args.strict.now files c.args.depfile.now c.args.command.now) c.look_at_files.result
    (λ h is. inr (sym c.in_ok-word.ensures ∙ c.in_default.is, inr (are, is))) found

pub returns-clause-refused : goal.returns-clause-refused
returns-clause-refused g c = λ honest.
    let files = g.T.Tree.files c.args.tree.now in
    let are = rw (c.deref.ensures.value, c.in_default-2.is) at (c.in_ok-hidden.ensures.found honest) in
    if_err _ (λ e. IsAborted e ⊎ IsUnread c.args.dialect c.args.header c.args.options c.args.strict.now files c.args.depfile.now c.args.command.now e) c.look_at_files.result
    (λ e is.
    unread_behind c.args.dialect c.args.header c.args.options c.args.strict.now files _ _ c.args.depfile.now c.args.command.now e (sym c.in_ok-word.ensures ∙ c.in_default.is) are
    (c.in_ok-hidden.ensures.reads.unchanged honest) c.as_bytes-alias.ensures.value is) (c.look_at_files.ensures.refused honest)
