use Rattle.ks_symbols.proofs.Prelude.{T, is_sorted, sym, subst}
use Rattle.std.specs.FinMap as map
use Rattle.ks_symbols.proofs.LastOnes.{order}
use Rattle.ks_symbols.proofs.Indices.{indexed_sorted}
use Rattle.ks_symbols.proofs.written_values.WrittenValues.finish.Goals as goal

pub finish-requires : goal.finish-requires
finish-requires c = subst (λ es. T (is_sorted order es)) (sym c.in_ok-rows.ensures) (indexed_sorted _ _ (map.entries_sorted _))
