use Rattle.std.proofs.Common.{arith}
use Rattle.std.proofs.lemmas.Grind.{common_steps}
use Rattle.ks_hidden.proofs.IncludeLemmas.{includes_at, includes_none}
use Rattle.ks_hidden.proofs.includes.behind_hash.Goals as goal

pub returns-in-Some-clause-names : goal.returns-in-Some-clause-names
returns-in-Some-clause-names c = let at = includes_at c.args.text.now c.in-Some.place c.in-Some.ensures in grind (arith, common_steps, at)

pub returns-in-None-clause-names : goal.returns-in-None-clause-names
returns-in-None-clause-names c = includes_none c.args.text.now c.in-None.ensures
