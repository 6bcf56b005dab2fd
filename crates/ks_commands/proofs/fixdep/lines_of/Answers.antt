use Rattle.ks_commands.proofs.Prelude.{Ok, sym, ap, err_from_is_err_and, rules}
use Rattle.ks_commands.proofs.fixdep.lines_of.Goals as goal

pub returns-clause-text : goal.returns-clause-text
returns-clause-text c = ap (λ t. Ok t) (sym c.in_ok-lines.ensures.text)

-- want of memory
pub returns-in_err-lines-clause-text : goal.returns-in_err-lines-clause-text
returns-in_err-lines-clause-text c = search (rules, err_from_is_err_and)
