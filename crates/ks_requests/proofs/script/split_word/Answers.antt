use Rattle.ks_requests.proofs.Prelude.{rules}
use Rattle.ks_requests.proofs.ScriptArgs.{first_space}
use Rattle.ks_requests.proofs.script.split_word.Goals as goal

pub returns-clause-word : goal.returns-clause-word
returns-clause-word c = search (rules, first_space)
