use Rattle.ks_output.proofs.Prelude.{rules}
use Rattle.ks_output.proofs.PieceLines.{none_whole, whole_to}
use Rattle.ks_output.proofs.auto_scan.whole_lines.Goals as goal

pub returns-in-Some-clause-whole : goal.returns-in-Some-clause-whole
returns-in-Some-clause-whole c = search (rules, whole_to)

pub returns-in-None-clause-whole : goal.returns-in-None-clause-whole
returns-in-None-clause-whole c = none_whole
