use Rattle.ks_commands.proofs.Prelude.{inr}
use Rattle.ks_commands.proofs.changes.record_rule.Goals as goal

pub returns-clause-files : goal.returns-clause-files
returns-clause-files g c = λ honest.
    let same = c.in_ok-look_if_strict.ensures.reads.unchanged honest in
    let recorded = rw same at (c.record_by_header.ensures.files honest) in
    inr (
      c.in_ok-header.header,
      c.in_ok-header.ensures.named,
      c.rule_options-options.result,
      c.rule_options-options.ensures,
      c.in_ok-look_if_strict.ensures.allowed honest,
      recorded.0,
      recorded.1,
      recorded.2,
    )
