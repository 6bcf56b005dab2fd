use Rattle.ks_fixdep.proofs.Prelude.{cases_Bool, false≢true, list_all-map, list_all_at, arith, common_steps}
use Rattle.ks_fixdep.proofs.command_file.owning.own_deps.Goals as goal

pub new-requires : goal.new-requires
new-requires c = grind (arith, common_steps, list_all-map, list_all_at, cases_Bool, false≢true)
