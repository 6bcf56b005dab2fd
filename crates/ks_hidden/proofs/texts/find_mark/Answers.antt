use Rattle.ks_hidden.specs.Texts.{IsMarkAt}
use Rattle.ks_hidden.proofs.TextLemmas.{each_mark, is_a_mark, least_alike, least_of_both}
use Rattle.ks_hidden.proofs.texts.find_mark.Goals as goal

pub returns : goal.returns
returns c =
    let text = c.args.text.now in
    let first = least_of_both _ _ _ _ _ c.lesser-first.ensures c.find_of.ensures c.find_of-2.ensures in
    let second = least_of_both _ _ _ _ _ c.lesser-first-2.ensures c.find_of-3.ensures first in
    least_alike _ (IsMarkAt text) _ (is_a_mark text) (each_mark text) (least_of_both _ _ _ _ _ c.lesser.ensures c.find_macro_quickly.ensures second)
