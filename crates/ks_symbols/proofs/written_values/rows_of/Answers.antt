use Rattle.ks_symbols.proofs.Prelude.{drop_all, append-nil, rules}
use Rattle.ks_symbols.proofs.Indices.{indexed_end}
use Rattle.ks_symbols.proofs.written_values.rows_of.Goals as goal

pub returns : goal.returns
returns c = search (rules, drop_all, append-nil, indexed_end)
