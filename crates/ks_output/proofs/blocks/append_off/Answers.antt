use Rattle.ks_output.proofs.Prelude.{append_assoc, rules}
use Rattle.ks_output.proofs.blocks.append_off.Goals as goal

pub returns : goal.returns
returns c = record { written = search (rules, append_assoc) }
