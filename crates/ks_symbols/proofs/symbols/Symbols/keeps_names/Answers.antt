use Rattle.ks_symbols.proofs.Prelude.{subst, Declarations, HasSymbolNames}
use Rattle.std.specs.FinMap as map
use Rattle.ks_symbols.proofs.symbols.Symbols.keeps_names.Goals as goal

pub returns : goal.returns
returns c = subst (λ (d : Declarations). HasSymbolNames (map.get d.kinds)) c.self.view_is c.self.invariant
