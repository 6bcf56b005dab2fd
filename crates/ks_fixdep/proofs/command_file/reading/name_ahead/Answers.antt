use Rattle.ks_fixdep.proofs.Prelude.{◌≡◌, ◌++◌, true, sym, ap, ◌∙◌, append_assoc, line_feed, name_end, name_mark, is_name}
use Rattle.ks_fixdep.proofs.CommandTextLemmas.{mark-split, word-split}
use Rattle.ks_fixdep.proofs.command_file.reading.name_ahead.Goals as goal

pub returns : goal.returns
returns c =
    let after = c.in_ok-strip_prefix.field-0.now in
    let name = c.split_word.result.0.now in
    let rest = c.in_ok-strip_prefix-2.field-0.now in
    let legal : is_name name ≡ true = sym c.word_is_name.ensures ∙ c.if-not-word_is_name.false in
    let mark : c.args.text.now ≡ name_mark ++ after = mark-split _ name_mark after c.in_ok-strip_prefix.ensures.cases.0 c.in_ok-strip_prefix.ensures.cases.1 in
    let end : c.split_word.result.1.now ≡ name_end ++ line_feed ++ rest = mark-split _ (name_end ++ line_feed) rest c.in_ok-strip_prefix-2.ensures.cases.0 c.in_ok-strip_prefix-2.ensures.cases.1 in
    let split = word-split after name c.split_word.result.1.now c.split_word.ensures.word c.split_word.ensures.rest in
    let grouped = sym (append_assoc (name ++ name_end) line_feed rest ∙ append_assoc name name_end (line_feed ++ rest)) in
    (legal, mark ∙ ap (λ a. name_mark ++ a) (split ∙ ap (λ r. name ++ r) end ∙ grouped))
