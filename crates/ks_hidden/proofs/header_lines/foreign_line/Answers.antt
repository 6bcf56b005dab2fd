use Rattle.std.proofs.Common.{rules, arith}
use Rattle.std.proofs.lemmas.Grind.{common_steps}
use Rattle.ks_symbols.specs.Lines.{lines}
use Rattle.ks_hidden.specs.HeaderLines.{foreign_line}
use Rattle.ks_hidden.proofs.header_lines.foreign_line.Goals as goal

pub loop-line-init : goal.loop-line-init
unfolding foreign_line lines
loop-line-init c = record { found = search rules; numbers = grind (arith, common_steps) }
