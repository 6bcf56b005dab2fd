use Rattle.std.proofs.Common.{◌∙◌, ap, length, take}
use Rattle.std.proofs.lemmas.List.{take_min}
use Rattle.std.specs.Str.{str_eq_ignore_ascii_case}
use Rattle.ks_hidden.proofs.texts.begins_as.Goals as goal

pub returns : goal.returns
returns c =
    let text = c.args.text.now in
    let word = c.args.word.now in
    c.is_alike.ensures ∙ ap (λ n. str_eq_ignore_ascii_case (take n text) word) c.min.ensures ∙ ap (λ t. str_eq_ignore_ascii_case t word) (take_min (length word) text)
