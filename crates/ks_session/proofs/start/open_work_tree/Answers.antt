use Rattle.std.specs.Prelude.{◌≡◌, Err}
use Rattle.std.proofs.Common.{rules}
use Rattle.std.proofs.lemmas.Result.{err_from_is_err_and}
use Rattle.ks_session.specs.declared.start.Stop.TheVariants.{OutOfMemory}
use Rattle.ks_session.proofs.start.open_work_tree.Goals as goal

pub returns-in_err-open : goal.returns-in_err-open
returns-in_err-open g c =
    let is : c.from_residual.result ≡ Err OutOfMemory = search (rules, err_from_is_err_and) in
    rw is tt
