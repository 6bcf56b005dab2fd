use Rattle.ks_symbols.proofs.Prelude.{length-map, rules}
use Rattle.ks_symbols.proofs.Indices.{entries-kinds_in}
use Rattle.ks_symbols.proofs.symbols.Symbols.count.Goals as goal

pub returns : goal.returns
returns c = search (rules, entries-kinds_in, length-map)
