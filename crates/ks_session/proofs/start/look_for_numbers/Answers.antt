use Rattle.std.specs.Prelude.{◌≡◌, Err}
use Rattle.std.proofs.Common.{rules}
use Rattle.std.proofs.lemmas.Result.{err_from_is_err_and}
use Rattle.ks_session.specs.declared.start.Stop.TheVariants.{OutOfMemory}
use Rattle.ks_session.proofs.start.look_for_numbers.Goals as goal

pub returns-in_err-auto : goal.returns-in_err-auto
returns-in_err-auto g c =
    let is : c.from_residual.result ≡ Err OutOfMemory = search (rules, err_from_is_err_and) in
    rw is tt

pub returns-in_err-loss : goal.returns-in_err-loss
returns-in_err-loss g c =
    let is : c.from_residual-in_err-loss.result ≡ Err OutOfMemory = search (rules, err_from_is_err_and) in
    rw is tt
