use Rattle.ks_cli.proofs.Prelude.{◌∙◌, ap, subst, IfErr, IfOk, IsSomeAnd, IsPageNamed, texts, HasKind, fault_of, is_simple, is_simple_and_free, subcommand_of, takes, IsRequestOf}
use Rattle.ks_cli.proofs.ArgLemmas.{batch_made, entered_name, fault_reported, is_free_line, is_simple_line, made_by, memory_reported, page_reason, page_taken, paged_by, preview_made, visibly_reported}
use Rattle.ks_cli.proofs.args.request_of.Goals as goal

pub returns-clause-exact : goal.returns-clause-exact
returns-clause-exact c =
    let found = c.in-Ok.ensures.matches (ap is_simple c.in_ok-command.ensures ∙ is_simple_line) in
    subst (λ o. IfOk c.asked.result (λ q. IsSomeAnd o (λ p. IsRequestOf p.0 p.1 q)))
    (found.1 ∙ ap (λ app. subcommand_of app (texts c.args.args.now)) c.in_ok-command.ensures)
    (made_by _ _ _ c.asked.result (c.in-Some.ensures.name ∙ entered_name c.in-Ok.matches) c.in-Some.ensures.rows c.asked.ensures.made)

pub returns-clause-taken : goal.returns-clause-taken
returns-clause-taken c =
    let found = c.in-Ok.ensures.matches (ap is_simple c.in_ok-command.ensures ∙ is_simple_line) in
    let args = texts c.args.args.now in
    page_taken args c.asked.result
    (subst (λ o. IfErr c.asked.result (λ reported. IsSomeAnd o (λ p. IsPageNamed p.0 p.1 reported)))
    (found.1 ∙ ap (λ app. subcommand_of app args) c.in_ok-command.ensures)
    (paged_by _ _ _ c.asked.result (c.in-Some.ensures.name ∙ entered_name c.in-Ok.matches) c.in-Some.ensures.rows c.asked.ensures.page))

pub returns-clause-fault : goal.returns-clause-fault
returns-clause-fault c =
    let found = c.in-Ok.ensures.matches (ap is_simple c.in_ok-command.ensures ∙ is_simple_line) in
    let args = texts c.args.args.now in
    page_reason args c.asked.result
    (subst (λ o. IfErr c.asked.result (λ reported. IsSomeAnd o (λ p. IsPageNamed p.0 p.1 reported)))
    (found.1 ∙ ap (λ app. subcommand_of app args) c.in_ok-command.ensures)
    (paged_by _ _ _ c.asked.result (c.in-Some.ensures.name ∙ entered_name c.in-Ok.matches) c.in-Some.ensures.rows c.asked.ensures.page))

pub returns-clause-report_style : goal.returns-clause-report_style
returns-clause-report_style c = c.asked.ensures.report_style

pub returns-clause-batch : goal.returns-clause-batch
returns-clause-batch c = batch_made (texts c.args.args.now) c.asked.result (returns-clause-exact c)

pub returns-clause-preview : goal.returns-clause-preview
returns-clause-preview c = preview_made (texts c.args.args.now) c.asked.result (returns-clause-exact c)

pub returns-in-Err-clause-taken : goal.returns-in-Err-clause-taken
returns-in-Err-clause-taken c = λ passes.
    memory_reported c.in-Err.error (texts c.args.args.now) c.refused.result
    (c.in-Err.ensures.passes (ap (λ app. takes app (texts c.args.args.now)) c.in_ok-command.ensures ∙ passes)) c.refused.ensures

pub returns-in-Err-clause-fault : goal.returns-in-Err-clause-fault
returns-in-Err-clause-fault c =
    let has = c.in-Err.ensures.kinds (ap is_simple_and_free c.in_ok-command.ensures ∙ is_free_line) in
    let args = texts c.args.args.now in
    fault_reported c.in-Err.error args c.refused.result
    (subst (λ app. HasKind (fault_of app args) c.in-Err.error) c.in_ok-command.ensures has) c.refused.ensures

pub returns-in-Err-clause-report_style : goal.returns-in-Err-clause-report_style
returns-in-Err-clause-report_style c = visibly_reported c.in-Err.error c.refused.result c.refused.ensures
