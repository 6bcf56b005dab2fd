use Rattle.ks_commands.proofs.Prelude.{◌∙◌, ◌++◌, ap, option_map}
use Rattle.ks_commands.specs.Spelling.{spelling_line}
use Rattle.ks_commands.proofs.queries.write_spelled.Goals as goal

pub returns-clause-lines : goal.returns-clause-lines
returns-clause-lines c =
    c.in_ok-write_spelling.ensures ∙ ap (λ l. l ++ spelling_line (option_map (λ v. v.items) c.args.reported.now.spelling)) c.in_ok-status.ensures.lines
