use Rattle.ks_fixdep.proofs.RuleLemmas.{rules_read_back, first_tokens}
use Rattle.ks_fixdep.proofs.rule.rules_read_back.Goals as goal

pub returns-clause-back : goal.returns-clause-back
returns-clause-back c = rules_read_back

pub returns-clause-first : goal.returns-clause-first
returns-clause-first c = first_tokens
