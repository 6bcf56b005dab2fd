use Rattle.ks_commands.proofs.Prelude.{inl, inr, Err, ap, ◌∙◌, err_from_is_err_and, seen_texts}
use Rattle.ks_requests.specs.Inputs.{source_at}
use Rattle.ks_commands.proofs.Differing.{reported_of}
use Rattle.ks_commands.proofs.differences.report_differences.Goals as goal

pub returns-in_err-differences-clause-reported : goal.returns-in_err-differences-clause-reported
returns-in_err-differences-clause-reported g c = λ honest.
    let p = err_from_is_err_and c.from_residual-in_err-differences.result c.from_residual-in_err-differences.ensures.1 in
    let same = c.in_ok-texts.ensures.reads.unchanged honest in
    inr (
      seen_texts c.in_ok-texts.texts,
      c.in_ok-texts.ensures.texts honest,
      inr (
        c.in_err-differences.field-0.0,
        rw (← c.config.ensures, ← same) (c.in_err-differences.ensures.refused honest),
        p.1 ∙ ap (λ r. Err r) p.2,
      ),
    )

pub returns-clause-reported : goal.returns-clause-reported
returns-clause-reported g c = λ honest.
    let same = c.in_ok-texts.ensures.reads.unchanged honest in
    let texts = seen_texts c.in_ok-texts.texts in
    inr (
      texts,
      c.in_ok-texts.ensures.texts honest,
      inl (reported_of c.args.report_style (g.T.Tree.files c.args.tree.now) (source_at c.args.dialect c.args.config.now.form texts) c.in_ok-differences.field-0
          (rw (← c.config.ensures, ← same) (c.in_ok-differences.ensures.reported honest))),
    )
