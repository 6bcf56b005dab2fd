use Rattle.ks_commands.proofs.Prelude.{inl, inr, Err, ap, ◌≡◌, ◌∙◌, ◌≤◌, arith, err_from_is_err_and, IsImpactOf, seen_texts, state, rules}
use Rattle.ks_requests.specs.Inputs.{source_at}
use Rattle.ks_commands.proofs.Walks.{impact_asked}
use Rattle.ks_commands.proofs.queries.query_predicted.Goals as goal

pub returns-in_err-texts-clause-reported : goal.returns-in_err-texts-clause-reported
returns-in_err-texts-clause-reported g c = search (rules, err_from_is_err_and)

pub returns-in_err-impact-clause-reported : goal.returns-in_err-impact-clause-reported
returns-in_err-impact-clause-reported g c =
    let p = err_from_is_err_and c.from_residual-in_err-impact.result c.from_residual-in_err-impact.ensures.1 in
    inr (
      seen_texts c.in_ok-texts.texts,
      c.in_ok-texts.ensures.texts,
      inl (
        c.in_err-impact.field-0.0,
        λ honest. rw (← c.config.ensures, ← c.in_ok-texts.ensures.reads.unchanged honest) (c.in_err-impact.ensures.refused honest),
        p.1 ∙ ap (λ r. Err r) p.2,
        c.in_err-impact.ensures.reads.kept ∙ c.in_ok-texts.ensures.reads.kept,
      ),
    )

pub returns-clause-reported : goal.returns-clause-reported
returns-clause-reported g c =
    let files = g.T.Tree.files c.args.tree.now in
    let texts = seen_texts c.in_ok-texts.texts in
    let source = source_at c.args.dialect c.args.config.now.form texts in
    let impact = c.in_ok-impact.impact in
    let there = c.in_ok-texts.ensures.reads in
    let predicted = c.in_ok-impact.ensures.reads in
    let same : g.T.Tree.is_honest → g.T.Tree.files c.of.new.tree ≡ files
    = λ honest. predicted.unchanged honest ∙ there.unchanged honest in
    let later : g.T.Tree.failures c.args.tree.now ≤ g.T.Tree.failures c.of.new.tree
    = omega (arith, there.counted.later, predicted.counted.later) in
    let reported_of : g.T.Tree.is_honest → IsImpactOf files source impact
    = λ honest. rw (← c.config.ensures, ← there.unchanged honest) (c.in_ok-impact.ensures.reported honest) in
    inr (
      texts,
      c.in_ok-texts.ensures.texts,
      inr (
        λ honest. let is = reported_of honest in (is.0, impact.report, is.1),
        impact_asked g.T.Tree.is_honest c.args.format (record { ref_ptr = (0, 0); now = impact }) source (state g.T.Tree c.args.tree.now)
            (state g.T.Tree c.of.new.tree) c.args.targets.now c.query_targets.result (state g.T.Tree c.query_targets.new.tree) same later
            (predicted.kept ∙ there.kept) reported_of
            c.query_targets.ensures.reported,
      ),
    )
