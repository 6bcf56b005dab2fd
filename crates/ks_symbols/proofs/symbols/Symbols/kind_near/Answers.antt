use Rattle.ks_symbols.proofs.Prelude.{sym, ap, ◌∙◌, rules}
use Rattle.std.proofs.Common.{slice_get}
use Rattle.std.specs.FinMap as map
use Rattle.ks_symbols.proofs.Clashes.{get-kinds_in}
use Rattle.ks_symbols.proofs.Indices.{kind_index}
use Rattle.ks_symbols.proofs.symbols.Symbols.kind_near.Goals as goal

pub returns-in-Some-clause-kind : goal.returns-in-Some-clause-kind
returns-in-Some-clause-kind c = search (rules, get-kinds_in)

pub returns-in-Some-clause-index : goal.returns-in-Some-clause-index
returns-in-Some-clause-index c =
    ap (λ d. slice_get (map.entries d.kinds) c.in-Some.index) (sym c.self.view_is)
    ∙ kind_index c.self.inside.kinds c.in-Some.index c.args.name.now c.in-Some.kind _ c.in-Some.ensures.index

pub returns-in-None-clause-kind : goal.returns-in-None-clause-kind
returns-in-None-clause-kind c = search (rules, get-kinds_in)
