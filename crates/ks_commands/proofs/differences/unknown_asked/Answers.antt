use Rattle.ks_commands.proofs.Prelude.{rules}
use Rattle.ks_commands.proofs.Unknowns.{no_lines}
use Rattle.ks_commands.proofs.differences.unknown_asked.Goals as goal

pub returns-then-unknown-eq0 : goal.returns-then-unknown-eq0
returns-then-unknown-eq0 c = search (rules, no_lines)
