use Rattle.ks_symbols.proofs.Prelude.{gives, on_ok_weaker}
use Rattle.ks_symbols.proofs.dotconfig.take.Goals as goal

pub returns-in-Unsets-clause-entries : goal.returns-in-Unsets-clause-entries
unfolding gives
returns-in-Unsets-clause-entries c = rw c.in-Unsets.is (λ x at. c.note.ensures.entries _ x at)

pub returns-in-Assigns-clause-entries : goal.returns-in-Assigns-clause-entries
unfolding gives
returns-in-Assigns-clause-entries c = rw c.in-Assigns.is (on_ok_weaker c.assign.result (λ is x at. is _ x at) c.assign.ensures.entries)
