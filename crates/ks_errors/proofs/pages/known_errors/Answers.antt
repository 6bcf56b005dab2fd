use Rattle.std.proofs.Common.{◌≡◌, ◌++◌, ◌∙◌, ap, codes, flat_map, rules, string_bytes}
use Rattle.ks_errors.specs.Errors.{errors, known_line}
use Rattle.ks_errors.proofs.pages.known_errors.Goals as goal

pub returns : goal.returns
returns c =
    let begun : string_bytes c.in_ok-text.text ≡ codes "error: NUMBER is none of these\n\n" = c.in_ok-text.ensures.ok in
    c.in_ok-push_all.ensures ∙ ap (λ text. text ++ flat_map known_line errors) begun
