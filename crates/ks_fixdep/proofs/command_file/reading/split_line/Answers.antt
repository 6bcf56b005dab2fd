use Rattle.ks_fixdep.proofs.Prelude.{arith, rules}
use Rattle.ks_fixdep.proofs.CommandLineLemmas.{lines-at, lines-whole}
use Rattle.ks_fixdep.proofs.command_file.reading.split_line.Goals as goal

pub returns-in-Some-clause-first : goal.returns-in-Some-clause-first
returns-in-Some-clause-first c some = search (rules, lines-at)

pub returns-in-None-clause-first : goal.returns-in-None-clause-first
returns-in-None-clause-first c some = lines-whole c.args.text.now some (λ j lt. c.in-None.ensures j (omega arith) lt)
