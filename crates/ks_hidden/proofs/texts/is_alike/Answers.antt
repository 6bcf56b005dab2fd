use Rattle.std.specs.Char.{to_ascii_lowercase}
use Rattle.std.proofs.Common.{map, refl}
use Rattle.ks_hidden.proofs.TextLemmas.{decided}
use Rattle.ks_hidden.proofs.texts.is_alike.Goals as goal

pub returns : goal.returns
returns c = decided c.eq_ignore_ascii_case.result (map to_ascii_lowercase c.args.one.now) (map to_ascii_lowercase c.args.other.now) _ refl c.eq_ignore_ascii_case.ensures.test
