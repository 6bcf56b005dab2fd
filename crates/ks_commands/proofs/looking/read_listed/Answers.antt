use Rattle.ks_commands.proofs.Prelude.{err_from_is_err_and, refl}
use Rattle.ks_commands.proofs.LookingLemmas.{list_refused}
use Rattle.ks_commands.proofs.looking.read_listed.Goals as goal

pub returns-in_err-read_depfile_without-clause-refused : goal.returns-in_err-read_depfile_without-clause-refused
returns-in_err-read_depfile_without-clause-refused c =
    let p = err_from_is_err_and c.from_residual.result c.from_residual.ensures.1 in
    rw (p.1, p.2) (list_refused _ refl c.args.text.now _ c.in_err-read_depfile_without.ensures.refusal)
