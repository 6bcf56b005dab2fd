use Rattle.ks_symbols.proofs.Prelude.{IsUtf8-from_ascii}
use Rattle.ks_symbols.proofs.SeedLemmas.{name-IsAscii}
use Rattle.ks_symbols.proofs.seed.name_text.Goals as goal

pub from_utf8_unchecked-requires : goal.from_utf8_unchecked-requires
from_utf8_unchecked-requires c = IsUtf8-from_ascii _ (name-IsAscii _ c.requires)
