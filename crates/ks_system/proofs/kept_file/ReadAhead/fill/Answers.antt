use Rattle.std.proofs.Common.{arith, inl, rules}
use Rattle.ks_system.proofs.Counted.{on_err}
use Rattle.ks_system.proofs.Ahead.{ahead_in_buffer, read_none}
use Rattle.ks_system.proofs.kept_file.ReadAhead.fill.Goals as goal

pub returns-clause-read : goal.returns-clause-read
returns-clause-read g c = λ honest. ahead_in_buffer _ _ _ _ _ _ _ _ (c.in_ok-count.ensures.read honest) c.in_ok-count.ensures.within (omega arith) (omega arith)

pub returns-clause-end : goal.returns-clause-end
returns-clause-end g c = λ honest none. read_none _ _ _ _ _ _ (c.in_ok-count.ensures.read honest) (search rules) (omega arith) none

pub returns-in_err-count-clause-cause : goal.returns-in_err-count-clause-cause
returns-in_err-count-clause-cause g c = λ honest. on_err _ _ (inl (c.in_err-count.ensures.cause honest))
