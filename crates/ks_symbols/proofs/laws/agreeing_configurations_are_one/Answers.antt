use Rattle.ks_symbols.proofs.Prelude.{nat_list_cmp_total, same_map, slice_cmp-IsAntisymmetric, nat_cmp-IsAntisymmetric}
use Rattle.ks_symbols.proofs.laws.agreeing_configurations_are_one.Goals as goal

pub returns : goal.returns
returns c = same_map nat_list_cmp_total (slice_cmp-IsAntisymmetric nat_cmp-IsAntisymmetric)
