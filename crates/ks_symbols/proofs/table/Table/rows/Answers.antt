use Rattle.ks_symbols.proofs.Prelude.{rules}
use Rattle.ks_symbols.proofs.Records.{entries_of}
use Rattle.ks_symbols.proofs.table.Table.rows.Goals as goal

pub returns : goal.returns
returns g c = search (rules, entries_of)
