use Rattle.ks_hidden.proofs.TextLemmas.{least_of_both}
use Rattle.ks_hidden.proofs.texts.find_macro.Goals as goal

pub returns : goal.returns
returns c =
    let first = least_of_both _ _ _ _ _ c.lesser-first.ensures c.find.ensures c.find_either-first.ensures in
    least_of_both _ _ _ _ _ c.lesser.ensures c.find_either.ensures first
