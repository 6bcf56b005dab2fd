-- What conf wrote means a configuration in each dialect.
use Rattle.ks_output.proofs.Prelude.{◌≡◌, ℕ, List, Ok, IsTrue, Configuration, IsConfiguration, is_title}
use Rattle.ks_symbols.specs.declared.dialect.Dialect.{Dialect}
use Rattle.ks_symbols.specs.declared.dialect.Dialect.TheVariants as dialect
use Rattle.ks_output.specs.ConfTexts.{title_written_in, written_in}
use Rattle.ks_output.proofs.WrittenAlike.{accepted_is_configuration}
use Rattle.ks_output.proofs.BlocksAlike.{blocks_are_configuration}

pub written_is_configuration : (d : Dialect) (first header : List ℕ) (s : Configuration) → written_in d first header ≡ Ok s
    → IsTrue (is_title (title_written_in d first)) × IsConfiguration s
unfolding written_in title_written_in
written_is_configuration dialect.BusyBox first header s e = blocks_are_configuration first header s e
written_is_configuration d first header s e = accepted_is_configuration first header s e
