use Rattle.std.proofs.Common.{rules}
use Rattle.ks_errors.proofs.Search.{found_next, passed_next}
use Rattle.ks_errors.proofs.pages.error_among.Goals as goal

pub returns-then-is_named : goal.returns-then-is_named
returns-then-is_named c = search (rules, found_next)

pub loop-row-preserved : goal.loop-row-preserved
loop-row-preserved c = search (rules, passed_next)
