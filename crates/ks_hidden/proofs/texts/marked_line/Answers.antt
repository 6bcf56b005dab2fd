use Rattle.ks_hidden.specs.Texts.{IsMarkAt}
use Rattle.ks_hidden.proofs.TextLemmas.{first_line, no_line}
use Rattle.ks_hidden.proofs.texts.marked_line.Goals as goal

pub returns-in_err-at : goal.returns-in_err-at
returns-in_err-at c = rw (c.from_residual.ensures) (no_line c.args.text.now (IsMarkAt c.args.text.now) c.in_err-at.ensures)

pub returns : goal.returns
returns c = rw (c.line_number.ensures) (first_line c.args.text.now (IsMarkAt c.args.text.now) c.in_ok-at.at c.in_ok-at.ensures)
