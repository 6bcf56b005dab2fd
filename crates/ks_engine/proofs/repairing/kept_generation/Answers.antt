use Rattle.ks_engine.proofs.Prelude.{err_from_is_err_and, rules}
use Rattle.ks_engine.proofs.Reading.{old_refused}
use Rattle.ks_engine.proofs.Surveying.{generation_none, generation_refused, generation_some}
use Rattle.ks_engine.proofs.repairing.kept_generation.Goals as goal

pub returns-in_err-read_auto_generation-in-Some-clause-read : goal.returns-in_err-read_auto_generation-in-Some-clause-read
returns-in_err-read_auto_generation-in-Some-clause-read c = search (rules, err_from_is_err_and, generation_refused, old_refused)

pub returns-in_ok-read_auto_generation-in-Some-clause-read : goal.returns-in_ok-read_auto_generation-in-Some-clause-read
returns-in_ok-read_auto_generation-in-Some-clause-read c = search (rules, generation_some)

pub returns-in-None-clause-read : goal.returns-in-None-clause-read
returns-in-None-clause-read c = search (rules, generation_none)
