use Rattle.ks_symbols.proofs.Prelude.{length-map, rules}
use Rattle.ks_symbols.proofs.Records.{entries_of}
use Rattle.ks_symbols.proofs.table.Table.len.Goals as goal

pub returns : goal.returns
returns g c = search (rules, entries_of, length-map)
