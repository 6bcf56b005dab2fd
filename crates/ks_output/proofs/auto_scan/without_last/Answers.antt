use Rattle.ks_output.proofs.Prelude.{rules}
use Rattle.ks_output.proofs.PieceLines.{last_of_more, last_of_one, none_whole, whole_before}
use Rattle.ks_output.proofs.auto_scan.without_last.Goals as goal

pub returns-in-Some-clause-whole : goal.returns-in-Some-clause-whole
returns-in-Some-clause-whole c = search (rules, whole_before)

pub returns-in-Some-clause-last : goal.returns-in-Some-clause-last
returns-in-Some-clause-last c = search (rules, last_of_more)

pub returns-in-None-clause-whole : goal.returns-in-None-clause-whole
returns-in-None-clause-whole c = none_whole

pub returns-in-None-clause-last : goal.returns-in-None-clause-last
returns-in-None-clause-last c = search (rules, last_of_one)
