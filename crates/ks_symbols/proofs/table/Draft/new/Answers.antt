use Rattle.ks_symbols.proofs.Prelude.{refl, after_lines}
use Rattle.ks_symbols.proofs.table.Draft.new.Goals as goal

pub returns : goal.returns
unfolding after_lines
returns g c = rw (c.new-2.ensures.items) refl
