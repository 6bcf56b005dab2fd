use Rattle.ks_fixdep.proofs.Prelude.{seen_dep}
use Rattle.ks_fixdep.proofs.CommandTextLemmas.{dep-ahead}
use Rattle.ks_fixdep.proofs.command_file.reading.dep_at.Goals as goal

pub returns-in-Some-clause-first : goal.returns-in-Some-clause-first
returns-in-Some-clause-first c = (dep-ahead (seen_dep c.in-Some.dep) c.args.text.now c.in-Some.rest.now c.in-Some.ensures.0 c.in-Some.ensures.1).0

pub returns-in-Some-clause-rest : goal.returns-in-Some-clause-rest
returns-in-Some-clause-rest c = (dep-ahead (seen_dep c.in-Some.dep) c.args.text.now c.in-Some.rest.now c.in-Some.ensures.0 c.in-Some.ensures.1).1
