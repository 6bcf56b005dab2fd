use Rattle.std.proofs.Common.{◌∙◌, None, Some, sym}
use Rattle.ks_hidden.proofs.TextLemmas.{hidden_by_both}
use Rattle.ks_hidden.proofs.texts.hidden_line.Goals as goal

pub returns-in-Some-clause-found : goal.returns-in-Some-clause-found
returns-in-Some-clause-found c =
    hidden_by_both c.args.text.now c.marked_line.result c.in_ok-include.include (Some c.in-Some.line) (sym c.in-Some.is ∙ c.lesser.ensures) c.marked_line.ensures
    c.in_ok-include.ensures.found

pub returns-in-None-clause-found : goal.returns-in-None-clause-found
returns-in-None-clause-found c =
    hidden_by_both c.args.text.now c.marked_line.result c.in_ok-include.include None (sym c.in-None.is ∙ c.lesser.ensures) c.marked_line.ensures
    c.in_ok-include.ensures.found
